use Rattle.textwrap_more_calls.proofs.tables.read_cells.Goals as goal

pub lines_of-requires : goal.lines_of-requires
lines_of-requires c = (c.requires c.loop-cell.cell-index _ c.loop-cell-test.true).lines
