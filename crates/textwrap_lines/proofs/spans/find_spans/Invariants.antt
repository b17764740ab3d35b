use Rattle.textwrap_lines.proofs.spans.find_spans.Given as goal
use Rattle.textwrap_lines.proofs.Common.{left_standing, ℕ, ◌++◌, ◌≡◌, ◌≤◌}
use Rattle.textwrap_lines.proofs.PieceLines.{AllCome}
use Rattle.textwrap_lines.proofs.PlacedPieces.{spans_of}

-- the spans so far and those of the pieces that are left are those of all pieces, and the pieces
-- that are left come after as many bytes as columns at least
abbrev pub invariant-loop-piece : goal.invariant-loop-piece
invariant-loop-piece g l = record {
  are : l.spans.items ++ spans_of l.opens (left_standing l.piece-iterator)
      ≡ spans_of 0 (left_standing l.initial.piece-iterator);
  come : (at : ℕ) × (l.opens ≤ at) × AllCome l.paragraph at (left_standing l.piece-iterator);
}
