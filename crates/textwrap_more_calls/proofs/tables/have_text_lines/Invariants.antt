use Rattle.textwrap_more_calls.proofs.tables.have_text_lines.Given as goal
use Rattle.textwrap_calls.proofs.Common.{ℕ, ◌<◌, get_or}
use Rattle.textwrap_more_calls.specs.Tables.{HasTextLines}
use Rattle.textwrap_more_calls.specs.declared.tables.TextwrapCell.{TextwrapCell}

-- the cells so far have lines that are UTF-8
abbrev pub invariant-loop-cell : goal.invariant-loop-cell
invariant-loop-cell l = (k : ℕ) (d : TextwrapCell) → k < l.cell-index
    → HasTextLines (get_or l.cells k d)
