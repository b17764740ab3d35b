use Rattle.textwrap_words.proofs.cut_pieces.CutPieces.of.Goals as goal
use Rattle.textwrap_text.proofs.Common.{IsCharBoundary-start, arith}
use Rattle.textwrap_words.proofs.Common.{IsCharBoundary-end}

pub invariant_of-result : goal.invariant_of-result
invariant_of-result c = grind (arith, IsCharBoundary-start, IsCharBoundary-end)
