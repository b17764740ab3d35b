use Rattle.textwrap_marked_lines.proofs.lines.without_returns.Given as goal
use Rattle.textwrap_text.proofs.Common.{suffix_len, get_or, ◌+◌, ◌≤◌}
use Rattle.textwrap_marked_lines.specs.Lines.{is_return}
use Rattle.textwrap_marks.proofs.Common.{length, take, ◌<◌, ◌≡◌}

-- the bytes passed, and those at the end of what is left, are those at the end
abbrev pub invariant-loop-end : goal.invariant-loop-end
invariant-loop-end l = (l.end ≤ length l.bytes)
    × (l.end + suffix_len is_return l.bytes ≡ length l.bytes + suffix_len is_return
    (take l.end l.bytes)) × (l.end < length l.bytes → get_or l.bytes l.end 0 < 128)

abbrev pub decreases-loop-end : goal.decreases-loop-end
decreases-loop-end l = l.end
