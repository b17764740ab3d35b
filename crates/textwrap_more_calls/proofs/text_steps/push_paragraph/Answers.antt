use Rattle.textwrap_more_calls.proofs.text_steps.push_paragraph.Goals as goal
use Rattle.textwrap_calls.proofs.Common.{settings_view, sym, ◌∙◌}
use Rattle.textwrap_more_calls.proofs.TextStepLemmas.{both-ok, divided-begins, further-divided}

pub returns-clause-placed : goal.returns-clause-placed
returns-clause-placed g c =
    rw (further-divided (settings_view c.args.options.now) c.args.is_later c.args.paragraph.now
    c.args.steps.now (sym c.is_one_line.ensures ∙ c.if-is_one_line.false) c.args.start)
    at c.push_step_lines.ensures.placed

pub returns-clause-begins : goal.returns-clause-begins
returns-clause-begins g c =
    both-ok c.push_step_lines.result c.push_step_lines.ensures.tiles c.push_step_lines.ensures.steps
    (λ tile steps. divided-begins (settings_view c.args.options.now) c.args.is_later
    c.args.paragraph.now c.args.steps.now (sym c.is_one_line.ensures ∙ c.if-is_one_line.false) tile
    steps.ends_are)
