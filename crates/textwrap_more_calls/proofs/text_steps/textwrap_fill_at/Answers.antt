use Rattle.textwrap_more_calls.proofs.text_steps.textwrap_fill_at.Goals as goal
use Rattle.textwrap_calls.proofs.Common.{[], ap, Line, lines_of, List, ◌∙◌}
use Rattle.textwrap_calls.proofs.Common.{append-nil, step_settings, settings_view, ShowLines}
use Rattle.textwrap_more_calls.proofs.Common.{text_step_cuts, WritesText-answer}
use Rattle.textwrap_more_calls.proofs.text_steps.textwrap_fill_at.Goals.{After-as_bytes}
use Rattle.textwrap_more_calls.specs.TextSteps.{filled_at}

abbrev lines : After-as_bytes → List Line
lines c = lines_of (text_step_cuts (settings_view c.in-Ok.options) c.args.steps.now
    c.in-Ok-from_utf8.text.now)

shown : (c : After-as_bytes) → ShowLines c.as_bytes.result.now
    c.in-Ok-place_text.placed.built.items 0 0 (lines c) c.in-Ok-place_text.placed.places.items
shown c = rw c.as_bytes.ensures.value
    (rw (append-nil c.in-Ok-place_text.placed.built.items) at (c.in-Ok-place_text.ensures.shown []))

pub join_lines-requires : goal.join_lines-requires
join_lines-requires c =
    let here = (goal.at.join_lines-requires c).After-as_bytes in (lines here, shown here)

pub returns-in-Ok-join_lines-clause-filled : goal.returns-in-Ok-join_lines-clause-filled
returns-in-Ok-join_lines-clause-filled c =
    let here = (goal.at.returns-in-Ok-join_lines-clause-filled c).After-as_bytes in
    WritesText-answer (c.deref.ensures.value ∙ c.in-Ok-join_lines.ensures (lines here) (shown here)
    ∙ ap (λ s. filled_at s c.args.steps.now c.in-Ok-from_utf8.text.now)
    c.in-Ok.ensures.read
    ∙ ap (filled_at (step_settings c.args.options.now) c.args.steps.now) c.in-Ok-from_utf8.ensures.0)
    c.put.ensures.text
