use Rattle.textwrap_marked.proofs.pieces.pieces_between.Given as goal
use Rattle.textwrap_marked.proofs.Common.{JoinedPiece, piece_view, word_of, List, drop, ◌++◌, map, ◌<◌}
use Rattle.textwrap_marked.{proofs.Common.◌≡◌, proofs.Common.◌≤◌, specs.Pieces.AreInRow}
use Rattle.textwrap_text.proofs.Common.{IsCharBoundary}
use Rattle.textwrap_words.proofs.Common.{parts_onward, IsNextPoint, AreNext}

-- the pieces so far, and those of what follows the last cut, are those of the text, and with any that
-- open behind them they are in a row
abbrev pub invariant-loop-cut : goal.invariant-loop-cut
invariant-loop-cut l = record {
  pieces : map piece_view l.pieces.items ++ map word_of (parts_onward l.start
      (drop l.cut-index l.cuts) l.text) ≡ map word_of (parts_onward 0 l.cuts l.text);
  row : (rest : List JoinedPiece) → AreInRow l.opens rest → AreInRow 0 (l.pieces.items ++ rest);
  room : l.opens ≤ l.start;
  boundary : 0 < l.start → IsCharBoundary l.text l.start;
  left : AreNext (IsNextPoint l.text) (drop l.cut-index l.cuts) l.start;
}
