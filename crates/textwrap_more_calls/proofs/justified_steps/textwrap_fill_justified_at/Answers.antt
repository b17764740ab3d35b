use Rattle.textwrap_more_calls.proofs.justified_steps.textwrap_fill_justified_at.Goals as goal
use Rattle.textwrap_calls.proofs.Common.{ap, step_settings, ◌∙◌}
use Rattle.textwrap_more_calls.{proofs.Common.WritesText-answer, specs.JustifiedSteps.justified_at}

pub returns-in-Ok-justify_text-clause-filled : goal.returns-in-Ok-justify_text-clause-filled
returns-in-Ok-justify_text-clause-filled c =
    WritesText-answer (c.as_bytes.ensures.value ∙ c.in-Ok-justify_text.ensures.filled
    ∙ ap (λ s. justified_at s c.args.steps.now c.in-Ok-from_utf8.text.now)
    c.in-Ok.ensures.read
    ∙ ap (justified_at (step_settings c.args.options.now) c.args.steps.now)
    c.in-Ok-from_utf8.ensures.0) c.put.ensures.text
