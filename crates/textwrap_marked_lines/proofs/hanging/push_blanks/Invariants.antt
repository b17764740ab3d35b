use Rattle.textwrap_marked_lines.proofs.hanging.push_blanks.Given as goal
use Rattle.textwrap_text.proofs.Common.{string_bytes, ◌≤◌}
use Rattle.textwrap_marked_lines.specs.Hanging.{blanks}
use Rattle.textwrap_marks.proofs.Common.{◌++◌, ◌-◌, ◌≡◌}

abbrev pub invariant-loop-len : goal.invariant-loop-len
invariant-loop-len l = (l.len ≤ l.count)
    × (string_bytes l.text ≡ string_bytes l.fn.text ++ blanks l.len)

abbrev pub decreases-loop-len : goal.decreases-loop-len
decreases-loop-len l = l.count - l.len
