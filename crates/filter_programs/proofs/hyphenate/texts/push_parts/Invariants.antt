use Rattle.filter_programs.specs.HyphenateTexts.{hyphenated_at}
use Rattle.textwrap_text.proofs.Common.{join_with_byte, string_bytes, IsCharBoundary, drop, ◌++◌}
use Rattle.textwrap_text.proofs.Common.{◌<◌, ◌≡◌}
use Rattle.textwrap_words.proofs.Common.{AreNext, parts_onward, IsNextCut, hyphen}
use Rattle.filter_programs.proofs.hyphenate.texts.push_parts.Given as goal

-- what is made so far, and the parts behind the last point, are the parts of the word
abbrev pub invariant-loop-point : goal.invariant-loop-point
invariant-loop-point l = record {
  made : string_bytes l.made ++ join_with_byte hyphen (parts_onward l.start
      (drop l.point-index l.points) l.word)
      ≡ string_bytes l.fn.made ++ hyphenated_at l.points l.word;
  boundary : 0 < l.start → IsCharBoundary l.word l.start;
  left : AreNext (IsNextCut l.word) (drop l.point-index l.points) l.start;
}
