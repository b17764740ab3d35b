use Rattle.textwrap_text.proofs.Common.{YieldsList-end, YieldsList-from_chars, map-id, sym, ◌∙◌}
use Rattle.textwrap_patterns.proofs.written.characters_of.Goals as goal

pub returns : goal.returns
returns g c =
    let all = YieldsList-end
    (YieldsList-from_chars c.args.text.now c.utf8.text cc) c.loop-ch.yielded
    _ c.loop-ch.yielded_by _ _ c.in-None.is c.next.ensures.steps in
    c.loop-ch.invariant ∙ sym (map-id c.loop-ch.yielded) ∙ all.0
