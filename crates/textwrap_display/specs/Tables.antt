-- Texts in the columns of a table.
use Rattle.std.specs.Prelude.{◌≡◌, ℕ, max, List, [], ◌++◌, All, fold, length, map}
use Rattle.std.specs.Prelude.{replicate}
use Rattle.std.specs.Prelude.{slice_index_or, Vec}
use Rattle.std.specs.Borrow.{Bor}
use Rattle.std.specs.Fork.{slice_chunk}
use Rattle.std.specs.List.{AllZip, flat_map, range_with_len, zip}
use Rattle.std.specs.Slice.Iter.{chunk_count}
use Rattle.std.specs.declared.borrow.CowStr.{CowStr}
use Rattle.textwrap.specs.Rows.{row_text}
use Rattle.textwrap_layout.specs.Options.{HasParts, Settings, layout_view, settings_view}
use Rattle.textwrap_layout.specs.Paragraph.{DividesAs, DividesUnder, DividesWith, Line, line_bytes}
use Rattle.textwrap_layout.specs.Paragraph.{MayPass64BitsWith, Relations}
use Rattle.textwrap_layout.specs.Text.{AreTextLines, HasParagraphThat}
use Rattle.textwrap_layout.specs.declared.options.Options.{Options}
use Rattle.textwrap_words.specs.WordSplitters.{Splitter}
use Rattle.textwrap_words.specs.WrapAlgorithms.{Algorithm}
use Rattle.textwrap_display.specs.Alignment.{aligned}
use Rattle.textwrap_styles.specs.Styles.{texts_of}
use Rattle.textwrap_display.specs.declared.alignment.Alignment.{Alignment}
use Rattle.textwrap_display.specs.declared.tables.Column.{Column}
use Rattle.textwrap_display.specs.declared.tables.Gaps.{Gaps}

-- ---- the program's values, as those of the logic

-- how wide a column is, and where a line stands in it
pub record Shape : Type 0 where
  pub width : ℕ
  pub alignment : Alignment

abbrev pub shape_of : {P : Type 0} → Column P → Shape
shape_of column = record { width = column.layout.width; alignment = column.alignment }

-- what stands around the cells of a row
pub record RowGaps : Type 0 where
  pub left : List ℕ
  pub middle : List ℕ
  pub right : List ℕ

abbrev pub gaps_view : Gaps → RowGaps
gaps_view gaps = record {
  left = gaps.left.now;
  middle = gaps.middle.now;
  right = gaps.right.now;
}

abbrev pub texts_in : List (Bor (List ℕ)) → List (List ℕ)
texts_in texts = map (λ text. text.now) texts

-- a cell is the texts of its lines
abbrev pub cell_texts : {Z : Type 0} → List (Vec (CowStr Z) Z) → List (List (List ℕ))
cell_texts cells = map (λ lines. texts_of lines.items) cells

-- ---- rows

-- the line of a cell in a row, or nothing where the cell has no such line
abbrev pub cell_line : List (List ℕ) → ℕ → List ℕ
cell_line lines r = slice_index_or lines r []

-- that line, aligned in its column
abbrev pub shown_cell : Shape → List (List ℕ) → ℕ → List ℕ
shown_cell column lines r = line_bytes (aligned column.alignment column.width (cell_line lines r))

-- what each column shows in a row; one that has no cell shows no line
abbrev pub shown_cells : List Shape → List (List (List ℕ)) → ℕ → List (List ℕ)
shown_cells columns cells r =
    map (λ p. shown_cell p.0 p.1 r) (zip columns (cells ++ replicate (length columns) []))

-- as many rows as the highest cell has lines
abbrev pub height : List (List (List ℕ)) → ℕ
height cells = fold (λ most lines. max most (length lines)) 0 cells

module _ (gaps : RowGaps) (columns : List Shape) where
  abbrev pub table_row : List (List (List ℕ)) → ℕ → List ℕ
  table_row cells r =
      row_text gaps.left gaps.middle 0 gaps.right (shown_cells columns cells r)

  abbrev pub group_rows : List (List (List ℕ)) → List (List ℕ)
  group_rows cells = map (table_row cells) (range_with_len 0 (height cells))

-- ---- a table

-- the texts or the cells, so many at a time; the last ones may be fewer
abbrev pub groups_of : {X : Type 0} → ℕ → List X → List (List X)
groups_of count items =
    map (slice_chunk items count) (range_with_len 0 (chunk_count (length items) count))

-- as many cells as there are columns stand beside one another
abbrev pub rows_of_cells : RowGaps → List Shape → List (List (List ℕ)) → List (List ℕ)
rows_of_cells gaps columns cells =
    flat_map (group_rows gaps columns) (groups_of (length columns) cells)

-- where a relation says which lines a column makes of a text
module _ {X : Type 0} (Makes : X → List ℕ → List Line → Type 0) where
  abbrev pub IsCell : X × List ℕ → List (List ℕ) → Type 0
  IsCell p cell = (lines : List Line) × Makes p.0 p.1 lines × (cell ≡ map line_bytes lines)

  -- each text stands in the column of its place
  abbrev pub AreCells : List X → List (List ℕ) → List (List (List ℕ)) → Type 0
  AreCells columns texts cells = AllZip IsCell (zip columns texts) cells

  -- as many texts as there are columns give a group of cells, and the rows are those of the groups
  abbrev pub IsTableBy : (X → Shape) → List X → RowGaps → List (List ℕ) → List (List ℕ) → Type 0
  IsTableBy shape columns gaps texts rows =
      (groups : List (List (List (List ℕ))))
      × AllZip (AreCells columns) (groups_of (length columns) texts) groups
      × (rows ≡ flat_map (group_rows gaps (map shape columns)) groups)

-- the lines of a text by the layout and the parts of a column, where these may find so much
abbrev pub ColumnMakes : {P : Type 0} → (P → Relations) → Column P → List ℕ → List Line → Type 0
ColumnMakes may column = AreTextLines (layout_view column.layout)
    (DividesWith (may column.parts) (layout_view column.layout))

-- the pieces of some paragraph may pass 64 bits in the column
abbrev pub ColumnMayPass : {P : Type 0} → (P → Relations) → Column P → List ℕ → Type 0
ColumnMayPass may column = HasParagraphThat
    (MayPass64BitsWith (may column.parts) (layout_view column.layout)) column.layout.line_ending

-- no text passes in its column, where a relation says which may
abbrev pub NonePasses : {X : Type 0} → (X → List ℕ → Type 0) → List X → List (List ℕ) → Type 0
NonePasses MayPass columns texts = All (λ p. ¬ MayPass p.0 p.1) (zip columns texts)

-- ---- the same by built-in parts

-- a column whose parts are built in
pub record ColumnParts : Type 0 where
  pub settings : Settings
  pub splitter : Splitter
  pub algorithm : Algorithm
  pub alignment : Alignment

abbrev pub PartsMake : ColumnParts → List ℕ → List Line → Type 0
PartsMake p = AreTextLines p.settings (DividesAs p.splitter p.algorithm p.settings)

abbrev pub shape_of_parts : ColumnParts → Shape
shape_of_parts p = record { width = p.settings.width; alignment = p.alignment }

abbrev pub IsTableOf : List ColumnParts → RowGaps → List (List ℕ) → List (List ℕ) → Type 0
IsTableOf = IsTableBy PartsMake shape_of_parts

module _ {E C : Type 0} {e : _} {c : _} where
  -- the lines of a text by the layout and the options of a column
  abbrev pub OptionsMake : Column (Options E C e c) → List ℕ → List Line → Type 0
  OptionsMake column = AreTextLines (layout_view column.layout)
      (DividesUnder column.parts (layout_view column.layout))

  abbrev pub AreTableRows : List (Column (Options E C e c)) → RowGaps → List (List ℕ)
      → List (List ℕ) → Type 0
  AreTableRows = IsTableBy OptionsMake shape_of

  -- these are the column's parts
  pub record HasColumnParts (column : Column (Options E C e c)) (p : ColumnParts) : Type 0 where
    pub settings_are : layout_view column.layout ≡ p.settings
    pub parts_are : HasParts column.parts (settings_view column.parts) p.splitter p.algorithm
    pub alignment_is : column.alignment ≡ p.alignment

  abbrev pub HaveParts : List (Column (Options E C e c)) → List ColumnParts → Type 0
  HaveParts = AllZip HasColumnParts
