use Rattle.textwrap_marked.proofs.pieces.pieces_between.Goals as goal
use Rattle.textwrap_marked.proofs.Common.{append_assoc, JoinedPiece, piece_view, drop_more, WordText, map}
use Rattle.textwrap_marked.proofs.Common.{arith, List, refl, ◌++◌, sym, ◌∙◌, ◌∷◌, ◌≡◌, []}
use Rattle.textwrap_text.proofs.Common.{map_push}

pub returns-then-is_empty-clause-pieces : goal.returns-then-is_empty-clause-pieces
returns-then-is_empty-clause-pieces c =
    rw (c.in_ok-pieces.ensures.items, sym c.is_empty.ensures ∙ c.if-is_empty.true) refl

pub returns-then-is_empty-clause-row : goal.returns-then-is_empty-clause-row
returns-then-is_empty-clause-row c = rw c.in_ok-pieces.ensures.items tt

pub loop-cut-init : goal.loop-cut-init
loop-cut-init c = record {
  pieces = rw c.in_ok-pieces.ensures.items refl;
  row = λ rest are. rw c.in_ok-pieces.ensures.items are;
  room = omega arith;
  boundary = λ none. absurd (omega arith);
  left = c.requires;
}

pub range-requires-clause-start_le_end : goal.range-requires-clause-start_le_end
range-requires-clause-start_le_end c =
    (rw (drop_more c.args.cuts.now _ 0 c.loop-cut-test.true) at c.loop-cut.invariant.left).0.0

pub range-requires-clause-end_boundary : goal.range-requires-clause-end_boundary
range-requires-clause-end_boundary c =
    (rw (drop_more c.args.cuts.now _ 0 c.loop-cut-test.true) at c.loop-cut.invariant.left).0.2

-- the pieces so far with one more, and the others
one-more : (pieces items : List JoinedPiece) (p : JoinedPiece) (is : WordText) (rest all : List WordText)
    → items ≡ pieces ++ p ∷ [] → piece_view p ≡ is → map piece_view pieces ++ is ∷ rest ≡ all
    → map piece_view items ++ rest ≡ all
one-more pieces items p is rest all pushed same before =
    rw (pushed, map_push, same, append_assoc) before
