use Rattle.textwrap_marked_lines.proofs.fences.run_len.Given as goal
use Rattle.textwrap_marks.proofs.Common.{prefix_len, length, drop, ◌==◌, ◌+◌, ◌-◌, ◌≡◌, ◌≤◌}

-- the bytes passed, and those at the beginning of what is left, are those at the beginning
abbrev pub invariant-loop-len : goal.invariant-loop-len
invariant-loop-len l = (l.len ≤ length l.bytes)
    × (l.len + prefix_len (λ c. c == l.mark) (drop l.len l.bytes)
    ≡ prefix_len (λ c. c == l.mark) l.bytes)

abbrev pub decreases-loop-len : goal.decreases-loop-len
decreases-loop-len l = length l.bytes - l.len
