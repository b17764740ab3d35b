use Rattle.std.proofs.lemmas.List.Sums.{fold-append}
use Rattle.textwrap_text.proofs.Common.{YieldsList-end, YieldsList-from_chars, ap, arith, fold, map-id}
use Rattle.textwrap_text.proofs.Common.{next_of, sym, ◌∙◌}
use Rattle.textwrap_hyphens.proofs.outside.state_behind.Goals as goal

pub loop-ch-preserved : goal.loop-ch-preserved
loop-ch-preserved c = grind (arith, fold-append)

pub returns : goal.returns
returns c =
    let all = YieldsList-end (YieldsList-from_chars c.args.text.now c.utf8.text cc) c.loop-ch.yielded
    _ c.loop-ch.yielded_by _ c.next.new.self c.in-None.is c.next.ensures.steps in
    c.loop-ch.invariant ∙ ap (fold next_of c.args.state) (sym (map-id c.loop-ch.yielded) ∙ all.0)
