use Rattle.textwrap_display.proofs.tables.table_of_lines.Given as goal
use Rattle.textwrap_display.proofs.Common.{chunks_rest, chunks_size}
use Rattle.textwrap_display.specs.Tables.{cell_texts, gaps_view, rows_of_cells, shape_of}
use Rattle.textwrap_text.proofs.Common.{length, map, string_bytes, ◌++◌, ◌≡◌}

-- with the rows of the cells that are left, the rows so far are those of all
abbrev pub invariant-loop-group : goal.invariant-loop-group
invariant-loop-group g l = (chunks_size l.group-iterator ≡ length l.columns)
    × (map string_bytes l.rows.items ++ rows_of_cells (gaps_view l.gaps) (map shape_of l.columns)
    (cell_texts (chunks_rest l.group-iterator))
    ≡ rows_of_cells (gaps_view l.gaps) (map shape_of l.columns) (cell_texts l.cells))
