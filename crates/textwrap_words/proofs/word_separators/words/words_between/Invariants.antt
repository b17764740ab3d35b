use Rattle.textwrap_words.proofs.word_separators.words.words_between.Given as goal
use Rattle.textwrap_text.proofs.Common.{IsCharBoundary, drop, ◌++◌, map, ◌<◌, ◌≡◌}
use Rattle.textwrap_words.proofs.Common.{parts_onward, IsNextPoint, word_view, AreNext, word_of}

-- the words so far, and those of what follows the last cut, are those of the line
abbrev pub invariant-loop-cut : goal.invariant-loop-cut
invariant-loop-cut g l = record {
  words : map word_view l.words.items ++ map word_of (parts_onward l.start
      (drop l.cut-index l.cuts) l.line) ≡ map word_of (parts_onward 0 l.cuts l.line);
  boundary : 0 < l.start → IsCharBoundary l.line l.start;
  left : AreNext (IsNextPoint l.line) (drop l.cut-index l.cuts) l.start;
}
