use Rattle.textwrap_marks.proofs.words.split_white.Given as goal
use Rattle.textwrap_marks.proofs.Common.{prefix_len, is_white, length, drop, ◌+◌, ◌-◌, ◌≡◌}
use Rattle.textwrap_text.proofs.Common.{IsCharBoundary}

-- the bytes passed, and those at the beginning of what is left, are those at the beginning
abbrev pub invariant-loop-end : goal.invariant-loop-end
invariant-loop-end l = IsCharBoundary l.text l.end
    × (l.end + prefix_len is_white (drop l.end l.text) ≡ prefix_len is_white l.text)

abbrev pub decreases-loop-end : goal.decreases-loop-end
decreases-loop-end l = length l.text - l.end
