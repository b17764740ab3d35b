use Rattle.std.proofs.Common.{below_more, map}
use Rattle.text_files.{proofs.DiffLines.IsNearIf-other, specs.Differences.signed_view}
use Rattle.text_files.proofs.differences.next_place.Goals as goal

pub loop-at-preserved : goal.loop-at-preserved
loop-at-preserved c =
    below_more _ _ c.loop-at.invariant
    (λ from. IsNearIf-other (map signed_view c.args.lines.now) c.loop-at.at c.is_near.result c.args.near
    c.if-is_near-near.false c.is_near.ensures)
