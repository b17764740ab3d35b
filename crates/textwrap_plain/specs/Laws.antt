-- What the laws say.
use Rattle.std.specs.List.{zip}
use Rattle.std.specs.Prelude.{◌≡◌, ◌≢◌, ◌↔◌, ℕ, ◌+◌, ◌<◌, ◌≤◌, All, Bool, IsUtf8, List, None, chars, map}
use Rattle.std.specs.Prelude.{if◌then◌else◌, true}
use Rattle.textwrap.specs.{Filling.IsFilled, Laws.IsUnique, Options.Settings, Paragraph.Line}
use Rattle.textwrap.specs.Text.{ArePrintedWithin, AreTextLines, CanKeepToWidth, HasNoEscape, IsWrapped}
use Rattle.textwrap.specs.{Text.LinesKeepToWidth, Units.columns, Units.text_width, Words.WordText}
use Rattle.textwrap.specs.WrapAlgorithms.{Algorithm, ByFirstFit, algorithm_view}
use Rattle.textwrap_display.specs.{Laws.KeepToColumns, Tables.AreCells}
use Rattle.textwrap_hyphens.specs.{Hyphenation.Hyphenation, Table.held}
use Rattle.textwrap_hyphens.specs.declared.table.PatternTable.{PatternTable}
use Rattle.textwrap_layout.specs.{Direct.as_algorithm, Options.layout_view, Paragraph.later_width}
use Rattle.textwrap_layout.specs.declared.options.Options.{Options}
use Rattle.textwrap_plain.specs.Hyphenated.{AddOnlyHyphens, DividesAtPoints, AreTheText}
use Rattle.textwrap_plain.specs.Hyphenated.{DividesHyphenatedUnder, HasPartsBeside, LinesKeepButHyphens}
use Rattle.textwrap_plain.specs.Options.{is_dictionary, DividesPlainly, plain_algorithm, plain_settings}
use Rattle.textwrap_plain.specs.Tables.{PlainColumn, PlainMakes, plain_parts, plain_shape}
use Rattle.textwrap_plain.specs.declared.options.PlainOptions.{PlainOptions}
use Rattle.textwrap_plain.specs.declared.options.PlainSeparator.TheVariants.{AtBlanks}
use Rattle.textwrap_plain.specs.declared.options.PlainSplitter.{PlainSplitter}
use Rattle.textwrap_plain.specs.declared.options.PlainSplitter.TheVariants.{Dictionary}
use Rattle.textwrap_words.specs.declared.wrap_algorithms.WrapAlgorithm.TheVariants.{FirstFit}

-- under any options without functions a text has one list of lines at most
abbrev pub PlainLinesAreUnique : Type 0
PlainLinesAreUnique =
    (o : PlainOptions) → IsUnique (AreTextLines (plain_settings o) (DividesPlainly o (plain_settings o)))

-- and one filled text
abbrev pub PlainTextIsUnique : Type 0
PlainTextIsUnique =
    (o : PlainOptions) → IsUnique (IsFilled (plain_settings o) (DividesPlainly o (plain_settings o)))

-- by any dictionary, built-in algorithm and settings a text has one list of lines at most
abbrev pub HyphenatedLinesAreUnique : Type 0
HyphenatedLinesAreUnique =
    (h : Hyphenation) (settings : Settings) (algorithm : Algorithm)
    → IsUnique (AreTextLines settings (DividesAtPoints h algorithm settings))

-- and one filled text
abbrev pub HyphenatedTextIsUnique : Type 0
HyphenatedTextIsUnique =
    (h : Hyphenation) (settings : Settings) (algorithm : Algorithm)
    → IsUnique (IsFilled settings (DividesAtPoints h algorithm settings))

-- options without functions divide a paragraph into words between blanks, split by a dictionary, as a
-- dictionary does
abbrev pub PlainIsAtPoints : Type 0
PlainIsAtPoints =
    (o : PlainOptions) (table : PatternTable) → o.word_separator ≡ AtBlanks
    → o.word_splitter ≡ Dictionary table → (settings : Settings) (is_later : Bool)
    (paragraph : List ℕ) (division : List (List WordText))
    → DividesPlainly o settings is_later paragraph division
    ↔ DividesAtPoints (held table) (plain_algorithm o) settings is_later paragraph division

-- and so do options that name the same words and algorithm
abbrev pub AreAtPoints : {E C : Type 0} {e : _} {c : _} → Options E C e c → PatternTable → Type 0
AreAtPoints o table =
    (algorithm : Algorithm) → HasPartsBeside o algorithm → (settings : Settings) (is_later : Bool)
    (paragraph : List ℕ) (division : List (List WordText))
    → DividesHyphenatedUnder o (held table) settings is_later paragraph division
    ↔ DividesAtPoints (held table) algorithm settings is_later paragraph division

-- ---- the lines of a text by a dictionary, any options and any settings

-- a property of these lines of the text
module _ {E C : Type 0} {e : _} {c : _} (o : Options E C e c) (table : PatternTable) where
  abbrev pub HyphenatedLines : (Settings → (Bool → List ℕ → List (List WordText) → Type 0) → List ℕ
      → List Line → Type 0) → Type 0
  HyphenatedLines P =
      (settings : Settings) (text : List ℕ) (lines : List Line) → IsUtf8 text
      → AreTextLines settings (DividesHyphenatedUnder o (held table) settings) text lines
      → P settings (DividesHyphenatedUnder o (held table) settings) text lines

  abbrev pub AreWrapped : Type 0
  AreWrapped =
      HyphenatedLines (λ settings. IsWrapped settings None (algorithm_view o.wrap_algorithm))

  -- behind a line nothing is printed, or a hyphen
  abbrev pub AddHyphensAlone : Type 0
  AddHyphensAlone = HyphenatedLines AddOnlyHyphens

  -- by a built-in algorithm they are the text, but for hyphens, indents and blanks
  abbrev pub AreTheTextBeside : Type 0
  AreTheTextBeside =
      algorithm_view o.wrap_algorithm ≢ None → HyphenatedLines (λ settings Divides. AreTheText settings)

  -- by first fit, where words are broken, the lines keep to their widths but for hyphens
  abbrev pub KeepToWidthButHyphens : Type 0
  KeepToWidthButHyphens =
      o.wrap_algorithm ≡ FirstFit → HyphenatedLines (λ settings Divides text lines.
      settings.break_words ≡ true → LinesKeepButHyphens settings Divides text lines)

  -- and with them, where hyphens have room and paragraphs are even
  abbrev pub KeepToWidthWithHyphens : Type 0
  KeepToWidthWithHyphens =
      o.wrap_algorithm ≡ FirstFit → HyphenatedLines (λ settings Divides text lines.
      settings.room_for_hyphens ≡ true → 0 < later_width settings → settings.even_paragraphs ≡ true
      → settings.break_words ≡ true → LinesKeepToWidth settings Divides text lines)

  -- also as they are printed, if they can
  abbrev pub ArePrintedWithHyphens : Type 0
  ArePrintedWithHyphens =
      o.wrap_algorithm ≡ FirstFit → HyphenatedLines (λ settings Divides text lines.
      settings.room_for_hyphens ≡ true → 0 < later_width settings → CanKeepToWidth settings text
      → ArePrintedWithin settings Divides text lines)

-- ---- tables

-- an indent that has no escape sequence takes no more than the width, and neither does a character of
-- the text behind it, with so many columns to spare
pub record HasRoomBehind (width spare : ℕ) (text indent : List ℕ) : Type 0 where
  pub escape : HasNoEscape indent
  pub fits : text_width indent + spare ≤ width
  pub each : All (λ c. text_width indent + columns c + spare ≤ width) (chars text)

-- the columns of a hyphen, where a dictionary splits words
abbrev pub hyphen_columns : PlainSplitter → ℕ
hyphen_columns splitter = if is_dictionary splitter then 1 else 0

-- a text without escape sequences, in a column that may keep to its width, has room for each of the
-- text's characters, with a hyphen where a dictionary splits words, and breaks words by first fit
pub record MayKeepToColumn (column : PlainColumn) (text : List ℕ) : Type 0 where
  pub first_fit : as_algorithm column.parts.algorithm ≡ ByFirstFit
  pub hyphens : column.layout.room_for_hyphens ≡ is_dictionary column.parts.splitter
  pub utf8 : IsUtf8 text
  pub escape : HasNoEscape text
  pub can : CanKeepToWidth (layout_view column.layout) text
  pub initial : HasRoomBehind column.layout.width (hyphen_columns column.parts.splitter) text
      column.layout.initial_indent.now
  pub subsequent : HasRoomBehind column.layout.width (hyphen_columns column.parts.splitter) text
      column.layout.subsequent_indent.now

-- the lines of such texts keep to their columns
abbrev pub CellsKeepToColumns : Type 0
CellsKeepToColumns =
    (columns : List PlainColumn) (texts : List (List ℕ))
    (cells : List (List (List ℕ))) → All (λ p. MayKeepToColumn p.0 p.1) (zip columns texts)
    → AreCells PlainMakes (map plain_parts columns) texts cells
    → KeepToColumns (map plain_shape (map plain_parts columns)) cells
