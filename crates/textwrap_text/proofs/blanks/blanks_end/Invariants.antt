use Rattle.textwrap_text.proofs.blanks.blanks_end.Given as goal
use Rattle.textwrap_text.proofs.Common.{BlanksBetween, length, ◌-◌, ◌≤◌}

abbrev pub invariant-loop-end : goal.invariant-loop-end
invariant-loop-end l =
    (l.start ≤ l.end) × (l.end ≤ length l.text) × BlanksBetween l.text l.start l.end

abbrev pub decreases-loop-end : goal.decreases-loop-end
decreases-loop-end l = length l.text - l.end
