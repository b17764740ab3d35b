use Rattle.std.proofs.lemmas.Iterator.Splits.{YieldsList-from_lines}
use Rattle.textwrap_text.proofs.Common.{YieldsList-end, ap, map, ◌∙◌}
use Rattle.textwrap_dictionaries.proofs.parsing.lines_of.Goals as goal

pub returns : goal.returns
returns g c =
    let all = YieldsList-end
    (YieldsList-from_lines c.args.text.now cc) c.loop-line.yielded
    _ c.loop-line.yielded_by _ _ c.in-None.is c.next.ensures.steps in
    ap (map (λ line. line.now)) c.loop-line.invariant ∙ all.0
