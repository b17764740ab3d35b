-- The texts of a table and its columns, as C has them.
use Rattle.std.specs.Prelude.{◌≡◌, ℕ, ◌≤◌, List, All, map}
use Rattle.textwrap_calls.specs.{Columns.AreTextGaps, Display.alignment_of}
use Rattle.textwrap_calls.specs.Options.{AreKnown, AreTexts, options_settings, options_points}
use Rattle.textwrap_calls.specs.{Options.options_algorithm, Options.separator_of, Texts.bytes_of}
use Rattle.textwrap_calls.specs.{Texts.IsText, declared.columns.TextwrapGaps.TextwrapGaps}
use Rattle.textwrap_calls.specs.declared.texts.TextwrapText.{TextwrapText}
use Rattle.textwrap_display.specs.Tables.{Shape}
use Rattle.textwrap_more_calls.specs.declared.tables.TextwrapCell.{TextwrapCell}
use Rattle.textwrap_more_calls.specs.declared.tables.TextwrapColumn.{TextwrapColumn}
use Rattle.textwrap_plain.specs.{Options.words_by, Tables.PlainColumnParts}

-- what a column is made of
abbrev pub parts_of_column : TextwrapColumn → PlainColumnParts
parts_of_column column = record {
  words = words_by (separator_of column.options);
  settings = options_settings column.options;
  points = options_points column.options;
  algorithm = options_algorithm column.options;
  alignment = alignment_of column.alignment;
}

-- its options are known, and each number means something
pub record IsKnownColumn (column : TextwrapColumn) : Type 0 where
  pub options : AreKnown column.options
  pub alignment : column.alignment ≤ 2
  pub reserved : column.reserved ≡ 0

-- its indents are texts
pub record HasTexts (column : TextwrapColumn) : Type 0 where
  pub indents : AreTexts column.options

-- the cells, the indents of the columns and the gaps are texts
pub record AreTableTexts (cells : List TextwrapText) (columns : List TextwrapColumn)
    (gaps : TextwrapGaps) : Type 0 where
  pub cells_are : All IsText cells
  pub columns_are : All HasTexts columns
  pub gaps_are : AreTextGaps gaps

-- ---- cells that have their lines

-- how wide a column is, and where a line stands in it
abbrev pub shape_of_column : TextwrapColumn → Shape
shape_of_column column = record {
  width = column.options.width;
  alignment = alignment_of column.alignment;
}

-- the bytes of the lines of each cell
abbrev pub lines_of_cells : List TextwrapCell → List (List (List ℕ))
lines_of_cells cells = map (λ cell. bytes_of cell.lines.now) cells

-- its lines are texts
pub record HasTextLines (cell : TextwrapCell) : Type 0 where
  pub lines : All IsText cell.lines.now
