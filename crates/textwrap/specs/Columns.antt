-- A text in columns beside one another.
use Rattle.std.specs.Prelude.{◌≡◌, ℕ, ◌+◌, ◌-◌, ◌*◌, ◌/◌, max, List, [], ◌∷◌, ◌++◌, length, map}
use Rattle.std.specs.Prelude.{replicate, slice_index_or, Bool}
use Rattle.std.specs.Int.{div_ceil}
use Rattle.std.specs.List.{flat_map, range_with_len}
use Rattle.textwrap_text.specs.Blanks.{blank}
use Rattle.textwrap_text.specs.Units.{text_width}
use Rattle.textwrap_words.specs.Words.{WordText}
use Rattle.textwrap_layout.specs.Options.{Settings}
use Rattle.textwrap_layout.specs.Paragraph.{Line, line_bytes}
use Rattle.textwrap_layout.specs.Text.{AreTextLines}
use Rattle.textwrap.specs.Rows.{row_text}
use Rattle.textwrap.specs.declared.columns.Table.{Table}

abbrev pub blanks : ℕ → List ℕ
blanks n = replicate n blank

-- ---- widths

-- what the gaps leave of a row
abbrev pub inner_width : ℕ → ℕ → List ℕ → List ℕ → List ℕ → ℕ
inner_width width columns left middle right =
    width - (text_width left + text_width right + (columns - 1) * text_width middle)

-- the width of each column, at least 1
abbrev pub column_width : ℕ → ℕ → ℕ
column_width inner columns = max (inner / columns) 1

-- what the rows of a table have in common: how many columns there are, how wide each is, how many
-- blanks follow the last, and what stands before, between and after them
pub record RowLayout : Type 0 where
  pub columns : ℕ
  pub column_width : ℕ
  pub spare_width : ℕ
  pub left : List ℕ
  pub middle : List ℕ
  pub right : List ℕ

abbrev pub table_view : Table → RowLayout
table_view table = record {
  columns = table.columns;
  column_width = table.column_width;
  spare_width = table.spare_width;
  left = table.left_gap.now;
  middle = table.middle_gap.now;
  right = table.right_gap.now;
}

-- the inner width is divided evenly, and what is left over is spare
abbrev pub row_layout : ℕ → ℕ → List ℕ → List ℕ → List ℕ → RowLayout
row_layout width columns left middle right =
    let inner = inner_width width columns left middle right in
    record {
      columns = columns;
      column_width = column_width inner columns;
      spare_width = inner - columns * column_width inner columns;
      left = left;
      middle = middle;
      right = right;
    }

-- ---- rows

-- the columns are filled one after another
abbrev pub row_count : List (List ℕ) → ℕ → ℕ
row_count lines columns = div_ceil (length lines) columns

-- the line in a row and a column, where there is one
abbrev pub cell : List (List ℕ) → ℕ → ℕ → ℕ → List ℕ
cell lines rows r c = slice_index_or lines (r + c * rows) []

abbrev pub cells : List (List ℕ) → ℕ → ℕ → ℕ → List (List ℕ)
cells lines rows columns r = map (cell lines rows r) (range_with_len 0 columns)

-- a cell that is wider than its column gets no blanks
abbrev pub padded : ℕ → List ℕ → List ℕ
padded width text = text ++ blanks (width - text_width text)

module _ (layout : RowLayout) where
  abbrev pub column_row : List (List ℕ) → List ℕ
  column_row row =
      row_text layout.left layout.middle layout.spare_width layout.right
      (map (padded layout.column_width) row)

  -- the rows of a table of these lines
  abbrev pub table_rows : List (List ℕ) → List (List ℕ)
  table_rows lines =
      let rows = row_count lines layout.columns in
      map (λ r. column_row (cells lines rows layout.columns r)) (range_with_len 0 rows)

-- ---- a row, part by part

-- the cells with their blanks, and the middle gap between each two
abbrev pub cell_parts : RowLayout → List (List ℕ) → List (List ℕ)
cell_parts layout [] = []
cell_parts layout (text ∷ []) =
    text ∷ blanks (layout.column_width - text_width text) ∷ []
cell_parts layout (text ∷ next ∷ texts) =
    text ∷ blanks (layout.column_width - text_width text) ∷ layout.middle
    ∷ cell_parts layout (next ∷ texts)

abbrev pub row_parts : RowLayout → List (List ℕ) → List (List ℕ)
row_parts layout row =
    layout.left ∷ (cell_parts layout row ++ (blanks layout.spare_width ∷ layout.right ∷ []))

-- ---- columns

-- the cells of a column, from the rows of a table of these lines
abbrev pub column_cells : List (List ℕ) → ℕ → ℕ → List (List ℕ)
column_cells lines columns c =
    let rows = row_count lines columns in
    map (λ r. slice_index_or (cells lines rows columns r) c []) (range_with_len 0 rows)

-- the cells of all columns, one column after another
abbrev pub cells_by_column : List (List ℕ) → ℕ → List (List ℕ)
cells_by_column lines columns = flat_map (column_cells lines columns) (range_with_len 0 columns)

-- ---- a text

-- the settings by which the text of a table is wrapped: those that are given, at the width of a
-- column
abbrev pub at_column_width : Settings → ℕ → List ℕ → List ℕ → List ℕ → Settings
at_column_width settings columns left middle right =
    record settings { width = (row_layout settings.width columns left middle right).column_width }

-- the rows of a table of the text's lines, which are wrapped by these
abbrev pub IsInColumns : Settings → (Settings → Bool → List ℕ → List (List WordText) → Type 0)
    → ℕ → List ℕ → List ℕ → List ℕ → List ℕ → List (List ℕ) → Type 0
IsInColumns settings Divides columns text left middle right rows =
    let layout = row_layout settings.width columns left middle right in
    let narrow = at_column_width settings columns left middle right in
    (lines : List Line) × AreTextLines narrow (Divides narrow) text lines
    × (rows ≡ table_rows layout (map line_bytes lines))
