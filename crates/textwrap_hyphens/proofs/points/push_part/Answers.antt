use Rattle.textwrap_hyphens.proofs.{Common.arith, Parts.part-next}
use Rattle.textwrap_hyphens.proofs.points.push_part.Goals as goal

pub loop-place-preserved : goal.loop-place-preserved
loop-place-preserved g c = grind (arith, part-next)
