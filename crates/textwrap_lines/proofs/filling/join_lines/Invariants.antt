use Rattle.textwrap_lines.proofs.filling.join_lines.Given as goal
use Rattle.textwrap_lines.proofs.Common.{ending_bytes, join_with, line_bytes, string_bytes, take}
use Rattle.textwrap_lines.proofs.Common.{line_view, map, ◌≡◌}

abbrev pub invariant-loop-i : goal.invariant-loop-i
invariant-loop-i g l = string_bytes l.joined ≡ join_with (ending_bytes l.line_ending)
    (map line_bytes (map line_view (take l.i l.lines)))
