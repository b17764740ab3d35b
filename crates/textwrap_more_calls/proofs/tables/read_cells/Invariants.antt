use Rattle.textwrap_more_calls.proofs.tables.read_cells.Given as goal
use Rattle.textwrap_calls.proofs.Common.{drop, ◌++◌, ◌≡◌}
use Rattle.textwrap_more_calls.specs.Tables.{lines_of_cells}
use Rattle.textwrap_display.specs.Tables.{cell_texts}

-- the cells so far, and those that are left, have the lines of all
abbrev pub invariant-loop-cell : goal.invariant-loop-cell
invariant-loop-cell l =
    cell_texts l.cells.items ++ lines_of_cells (drop l.cell-index l.given) ≡ lines_of_cells l.given
