use Rattle.textwrap_text.proofs.chunks.ChunksIterator.next.Goals as goal
use Rattle.textwrap_text.proofs.{Common.arith, Texts.IsCharBoundary-after_blank}

pub split_at-requires : goal.split_at-requires
split_at-requires c = grind (arith, IsCharBoundary-after_blank)
