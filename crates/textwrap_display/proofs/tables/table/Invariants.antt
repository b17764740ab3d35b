use Rattle.textwrap_display.proofs.tables.table.Given as goal
use Rattle.textwrap_display.proofs.Common.{chunks_rest, chunks_size}
use Rattle.textwrap_display.specs.Tables.{ColumnMakes, ColumnMayPass, IsTableBy, NonePasses, gaps_view}
use Rattle.textwrap_display.specs.Tables.{groups_of, shape_of, texts_in}
use Rattle.textwrap_text.proofs.Common.{All, List, length, map, string_bytes, ℕ, ◌++◌, ◌≡◌}

-- with any table of the texts that are left, the rows are that of all; if all fit, those left do
abbrev pub invariant-loop-texts : goal.invariant-loop-texts
invariant-loop-texts g l = (chunks_size l.texts-iterator ≡ length l.columns) × ((others : List (List ℕ))
    → IsTableBy (ColumnMakes g.P.Parts.may) shape_of l.columns (gaps_view l.gaps) (texts_in (chunks_rest l.texts-iterator)) others
    → IsTableBy (ColumnMakes g.P.Parts.may) shape_of l.columns (gaps_view l.gaps) (texts_in l.cells)
    (map string_bytes l.rows.items ++ others))
    × (All (NonePasses (ColumnMayPass g.P.Parts.may) l.columns) (groups_of (length l.columns) (texts_in l.cells))
    → All (NonePasses (ColumnMayPass g.P.Parts.may) l.columns)
    (groups_of (length l.columns) (texts_in (chunks_rest l.texts-iterator))))
