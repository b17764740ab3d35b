use Rattle.textwrap_display.proofs.justified_lines.JustifiedLines.push_lines.Given as goal
use Rattle.textwrap_display.proofs.Common.{HoldsJustified, line_bytes, line_view}
use Rattle.textwrap_text.proofs.Common.{map, take}

abbrev pub invariant-loop-line : goal.invariant-loop-line
invariant-loop-line g l =
    HoldsJustified l.fn.self l.self (map line_bytes (map line_view (take l.line-index l.lines)))
