use Rattle.textwrap_display.proofs.tables.wrap_cells.Given as goal
use Rattle.textwrap_display.proofs.Common.{AllZip}
use Rattle.textwrap_display.specs.Tables.{ColumnMakes, IsCell, cell_texts, texts_in}
use Rattle.textwrap_text.proofs.Common.{length, take, zip}

-- the cells so far are those of the first texts
abbrev pub invariant-loop-text : goal.invariant-loop-text
invariant-loop-text g l = AllZip (IsCell (ColumnMakes g.P.Parts.may))
    (take (length l.yielded) (zip l.columns (texts_in l.texts))) (cell_texts l.cells.items)
