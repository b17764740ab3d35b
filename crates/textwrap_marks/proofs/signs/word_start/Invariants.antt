use Rattle.textwrap_marks.proofs.signs.word_start.Given as goal
use Rattle.textwrap_marks.proofs.Common.{AreWhite, false, ◌≤◌}

abbrev pub invariant-loop-start : goal.invariant-loop-start
invariant-loop-start l = (l.start ≤ l.end) × AreWhite false l.bytes l.start l.end

abbrev pub decreases-loop-start : goal.decreases-loop-start
decreases-loop-start l = l.start
