use Rattle.textwrap_display.proofs.tables.GroupRowCells.cell.Goals as goal
use Rattle.textwrap_display.proofs.TableGroups.{shown-at}
use Rattle.textwrap_display.specs.Tables.{cell_texts, shape_of}
use Rattle.textwrap_text.proofs.Common.{arith, get_or, get_or-map, length-map, map, sym}

pub returns : goal.returns
returns g c =
    let columns = c.args.self.now.columns.now in
    let at = c.args.c in
    let column = get_or columns at c.index-self-c.result in
    rw (c.aligned_cell.ensures, c.cell_line.ensures)
    (sym (shown-at (map shape_of columns) (cell_texts c.args.self.now.cells.now) c.args.r at
    (shape_of column) (omega (arith, c.requires, length-map columns shape_of))
    (sym (get_or-map shape_of columns at c.index-self-c.result (shape_of column) c.requires))))
