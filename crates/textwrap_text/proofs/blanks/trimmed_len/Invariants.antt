use Rattle.textwrap_text.proofs.blanks.trimmed_len.Given as goal
use Rattle.textwrap_text.proofs.Common.{suffix_len, is_blank, get_or, length, take, ◌+◌, ◌<◌, ◌≡◌}
use Rattle.textwrap_text.proofs.Common.{◌≤◌}

-- the blanks passed, and those of what is left, are the blanks at the end
abbrev pub invariant-loop-end : goal.invariant-loop-end
invariant-loop-end l = (l.end ≤ length l.bytes)
    × (l.end + suffix_len is_blank l.bytes ≡ length l.bytes + suffix_len is_blank
    (take l.end l.bytes)) × (l.end < length l.bytes → get_or l.bytes l.end 0 ≡ 32)

abbrev pub decreases-loop-end : goal.decreases-loop-end
decreases-loop-end l = l.end
