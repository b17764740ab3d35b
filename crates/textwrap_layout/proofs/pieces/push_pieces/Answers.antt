use Rattle.textwrap_layout.proofs.pieces.push_pieces.Goals as goal
use Rattle.textwrap_text.proofs.Common.{arith, eqb-true, map_push, nil_from_length}

pub push_split-requires : goal.push_split-requires
push_split-requires g c = rw c.deref.ensures.value c.in_ok-points.ensures.cuts

pub returns-then-is_empty : goal.returns-then-is_empty
returns-then-is_empty g c = grind (arith, eqb-true, nil_from_length, map_push)
