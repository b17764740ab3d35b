use Rattle.textwrap_marked_lines.proofs.columns.without_final_white.Given as goal
use Rattle.textwrap_marks.proofs.Common.{is_white, get_or, length, take, ◌+◌, ◌<◌, ◌≡◌, ◌≤◌}
use Rattle.textwrap_text.proofs.Common.{suffix_len}

-- the bytes passed, and those at the end of what is left, are those at the end
abbrev pub invariant-loop-end : goal.invariant-loop-end
invariant-loop-end l = (l.end ≤ length l.bytes)
    × (l.end + suffix_len is_white l.bytes ≡ length l.bytes + suffix_len is_white
    (take l.end l.bytes)) × (l.end < length l.bytes → get_or l.bytes l.end 0 < 128)

abbrev pub decreases-loop-end : goal.decreases-loop-end
decreases-loop-end l = l.end
