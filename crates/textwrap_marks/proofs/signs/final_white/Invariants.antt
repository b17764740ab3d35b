use Rattle.textwrap_marks.proofs.signs.final_white.Given as goal
use Rattle.textwrap_marks.proofs.Common.{AreWhite, length, true, ◌≤◌}

abbrev pub invariant-loop-end : goal.invariant-loop-end
invariant-loop-end l = (l.end ≤ length l.bytes) × AreWhite true l.bytes l.end (length l.bytes)

abbrev pub decreases-loop-end : goal.decreases-loop-end
decreases-loop-end l = l.end
