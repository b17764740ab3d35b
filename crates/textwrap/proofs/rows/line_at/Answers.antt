use Rattle.textwrap.proofs.rows.line_at.Goals as goal
use Rattle.textwrap.proofs.{Text.Rows.line-is, Common.sym, Common.◌∙◌}

pub returns-then-place-lines : goal.returns-then-place-lines
returns-then-place-lines g c =
    c.as_str.ensures.value
    ∙ sym (line-is c.args.lines.now c.index-lines-place.result c.args.place
    c.if-place-lines.true c.index-lines-place.is)
