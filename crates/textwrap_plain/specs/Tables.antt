-- Texts in the columns of a table, by options without functions.
use Rattle.std.specs.Prelude.{ℕ, List}
use Rattle.textwrap.specs.{Options.Settings, Paragraph.Line, Text.AreTextLines, Words.WordText}
use Rattle.textwrap.specs.WrapAlgorithms.{Algorithm}
use Rattle.textwrap_display.specs.Tables.{IsTableBy, RowGaps, Shape}
use Rattle.textwrap_display.specs.declared.alignment.Alignment.{Alignment}
use Rattle.textwrap_display.specs.declared.tables.Column.{Column}
use Rattle.textwrap_layout.specs.{Direct.as_algorithm, Options.layout_view}
use Rattle.textwrap_plain.specs.Options.{DividesFrom, points_by, words_by}
use Rattle.textwrap_plain.specs.declared.parts.PlainParts.{PlainParts}
use Rattle.textwrap_plain.specs.declared.printable.PlainWords.{PlainWords}

-- a column whose parts hold no function
abbrev pub PlainColumn : Type 0
PlainColumn = Column (PlainParts PlainWords)

-- how a column wraps its texts, and where their lines stand in it
pub record PlainColumnParts : Type 0 where
  pub words : List ℕ → List WordText
  pub settings : Settings
  pub points : List ℕ → List ℕ
  pub algorithm : Algorithm
  pub alignment : Alignment

abbrev pub plain_parts : PlainColumn → PlainColumnParts
plain_parts c = record {
  words = words_by c.parts.words.separator;
  settings = layout_view c.layout;
  points = points_by c.parts.splitter;
  algorithm = as_algorithm c.parts.algorithm;
  alignment = c.alignment;
}

abbrev pub PlainMakes : PlainColumnParts → List ℕ → List Line → Type 0
PlainMakes p = AreTextLines p.settings (DividesFrom p.words p.points p.algorithm p.settings)

abbrev pub plain_shape : PlainColumnParts → Shape
plain_shape p = record { width = p.settings.width; alignment = p.alignment }

abbrev pub IsPlainTable : List PlainColumnParts → RowGaps → List (List ℕ) → List (List ℕ) → Type 0
IsPlainTable = IsTableBy PlainMakes plain_shape
