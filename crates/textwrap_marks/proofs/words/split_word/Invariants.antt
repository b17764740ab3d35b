use Rattle.textwrap_marks.proofs.words.split_word.Given as goal
use Rattle.textwrap_marks.proofs.Common.{prefix_len, is_ink, length, drop, ◌+◌, ◌-◌, ◌≡◌, ◌≤◌}

-- the bytes passed, and those at the beginning of what is left, are those at the beginning
abbrev pub invariant-loop-end : goal.invariant-loop-end
invariant-loop-end l = (l.end ≤ length l.text)
    × (l.end + prefix_len is_ink (drop l.end l.text) ≡ prefix_len is_ink l.text)

abbrev pub decreases-loop-end : goal.decreases-loop-end
decreases-loop-end l = length l.text - l.end
