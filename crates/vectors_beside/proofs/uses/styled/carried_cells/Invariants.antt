use Rattle.vectors_beside.proofs.Common.{map, take, ◌≡◌}
use Rattle.textwrap_display.specs.Tables.{cell_texts}
use Rattle.vectors_beside.proofs.uses.styled.carried_cells.Given as goal
use Rattle.vectors_beside.specs.Styled.{carried_cell}

abbrev pub invariant-loop-lines : goal.invariant-loop-lines
invariant-loop-lines l =
    cell_texts l.cells.items ≡ map carried_cell (cell_texts (take l.lines-index l.wrapped))
