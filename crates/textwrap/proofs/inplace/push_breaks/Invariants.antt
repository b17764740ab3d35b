use Rattle.textwrap.proofs.inplace.push_breaks.Given as goal
use Rattle.textwrap.proofs.Common.{WordText, List, ◌<◌, ◌^◌}
use Rattle.textwrap.proofs.Text.InPlaceLines.{HasLine}

-- the words so far are the lines whose ends are known, and those of a line that may grow
abbrev pub invariant-loop-word : goal.invariant-loop-word
invariant-loop-word g l =
    ((line : List WordText) × HasLine l.width l.start l.part l.fn.breaks.items l.breaks.items
    l.line_start l.end l.open_width l.word-iterator line) × (l.open_width < 2 ^ 65)
