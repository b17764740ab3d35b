use Rattle.textwrap_words.proofs.word_splitters.pieces.push_split.Given as goal
use Rattle.textwrap_text.proofs.Common.{IsCharBoundary, drop, ◌++◌, map, ◌<◌, ◌≡◌}
use Rattle.textwrap_words.proofs.Common.{split_pieces, IsNextPoint, split_from, word_view, AreNext}

-- the pieces so far, and those of what follows the last cut, are those of the word
abbrev pub invariant-loop-point : goal.invariant-loop-point
invariant-loop-point g l = record {
  pieces : map word_view l.pieces.items ++ split_from (word_view l.word) l.start
      (drop l.point-index l.points) ≡ map word_view l.fn.pieces.items ++ split_pieces l.points
      (word_view l.word);
  cut : 0 < l.start → IsCharBoundary l.word.word.now l.start;
  left : AreNext (IsNextPoint l.word.word.now) (drop l.point-index l.points) l.start;
}
