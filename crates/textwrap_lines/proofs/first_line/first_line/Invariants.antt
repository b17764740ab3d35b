use Rattle.textwrap_lines.proofs.first_line.first_line.Given as goal
use Rattle.textwrap_lines.proofs.Common.{as_splitter, frame_settings, length, line_so_far}
use Rattle.textwrap_lines.proofs.PieceLines.{HoldsFirst, left_at}

abbrev pub invariant-loop-line : goal.invariant-loop-line
invariant-loop-line l =
    HoldsFirst (frame_settings l.frame) (as_splitter l.splitter) l.paragraph l.frame.is_later
    (line_so_far l.line)

-- how many pieces are left
abbrev pub decreases-loop-line : goal.decreases-loop-line
decreases-loop-line l = length (left_at (frame_settings l.frame) (as_splitter l.splitter) l.paragraph
    l.line.bounds.end)
