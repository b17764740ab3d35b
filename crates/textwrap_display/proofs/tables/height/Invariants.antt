use Rattle.textwrap_display.proofs.tables.height.Given as goal
use Rattle.textwrap_display.specs.Tables.{cell_texts, height}
use Rattle.textwrap_text.proofs.Common.{take, ◌≡◌}

abbrev pub invariant-loop-lines : goal.invariant-loop-lines
invariant-loop-lines g l = l.most ≡ height (cell_texts (take l.lines-index l.cells))
