use Rattle.textwrap.proofs.inplace.find_breaks.Given as goal
use Rattle.textwrap.proofs.Common.{paragraphs_of, FitsOneLine, length, All, ◌+◌, ◌≤◌, LF}
use Rattle.textwrap.proofs.Text.InPlace.{HasBreaks}
use Rattle.textwrap_layout.proofs.Text.Lines.{paragraphs_left, bytes_left}

-- the places so far, and those of the parts left, are the places of the text
abbrev pub invariant-loop-rest : goal.invariant-loop-rest
invariant-loop-rest g l =
    HasBreaks l.width l.text l.breaks.items l.start (paragraphs_left LF l.rest)
    × (l.start + bytes_left l.rest ≤ length l.text + 1)
    × (All (FitsOneLine l.width) (paragraphs_of LF l.text)
    → All (FitsOneLine l.width) (paragraphs_left LF l.rest))

abbrev pub decreases-loop-rest : goal.decreases-loop-rest
decreases-loop-rest g l = bytes_left l.rest
