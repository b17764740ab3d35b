use Rattle.textwrap_words.proofs.wrap_algorithms.at_ends.lines_between.Given as goal
use Rattle.textwrap_text.proofs.Common.{length, drop, ◌++◌, map, ◌≡◌}
use Rattle.textwrap_words.proofs.Common.{AreNext}
use Rattle.textwrap_words.specs.LineEnds.{lines_between, lines_from, IsNextEnd}

-- the lines so far, and those that follow them, are the lines between all ends
abbrev pub invariant-loop-end : goal.invariant-loop-end
invariant-loop-end g l = record {
  lines : map (λ line. line.now) l.lines.items ++ lines_from l.xs l.start (drop l.end-index l.ends)
      ≡ lines_between l.ends l.xs;
  left : AreNext (IsNextEnd (length l.xs)) (drop l.end-index l.ends) l.start;
}
