-- What a table in columns shows of the lines of a text.
use Rattle.std.specs.Prelude.{◌≡◌, ℕ, ◌*◌, ◌≤◌, List, [], ◌++◌, All, codes, replicate, sum_by}
use Rattle.textwrap.specs.Columns.{RowLayout, row_layout, inner_width, row_count, cells}
use Rattle.textwrap.specs.Columns.{row_parts, cells_by_column}
use Rattle.textwrap.specs.Units.{text_width}

-- the columns of text that a row of this width has beside its bars
abbrev pub barred_width : ℕ → ℕ → ℕ
barred_width width columns = inner_width width columns (codes "| ") (codes " | ") (codes " |")

-- how wide each column is, and what bars stand around and between
abbrev pub barred : ℕ → ℕ → RowLayout
barred width columns = row_layout width columns (codes "| ") (codes " | ") (codes " |")

-- the cells of the table, one column after another, are the lines, and then empty ones
abbrev pub IsEachShownOnce : List (List ℕ) → ℕ → Type 0
IsEachShownOnce lines columns =
    (empty : ℕ) × (cells_by_column lines columns ≡ lines ++ replicate empty [])

-- the parts of each row take together exactly the width, if no line is wider than its column and the
-- bars leave room for all columns
abbrev pub IsEven : ℕ → ℕ → List (List ℕ) → Type 0
IsEven width columns lines =
    let layout : RowLayout = barred width columns in
    columns * layout.column_width ≤ barred_width width columns
    → All (λ line. text_width line ≤ layout.column_width) lines
    → (r : ℕ)
    → sum_by text_width (row_parts layout (cells lines (row_count lines columns) columns r)) ≡ width
