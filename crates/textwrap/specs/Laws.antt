-- What the laws say.
use Rattle.std.specs.Prelude.{◌≡◌, ◌↔◌, ◌⊎◌, ℕ, true, false, List, ◌++◌, All, IsUtf8, length}
use Rattle.std.specs.Prelude.{◌≢◌, ◌+◌, ◌-◌, ◌*◌, ◌≤◌, [], drop, map, replicate, sum_by}
use Rattle.std.specs.Io.{StartsWith}
use Rattle.std.specs.List.{flat_map}
use Rattle.std.specs.Str.{chars, trim_end}
use Rattle.std.specs.Str.Lines.{lines}
use Rattle.textwrap_text.specs.Blanks.{without_final_blanks}
use Rattle.textwrap_text.specs.Units.{text_width}
use Rattle.textwrap_words.specs.WrapAlgorithms.{Algorithm, ByFirstFit}
use Rattle.textwrap_layout.specs.Filling.{IsFilled}
use Rattle.textwrap_text.specs.LineEnding.{line_feed, paragraphs_of}
use Rattle.textwrap_layout.specs.Options.{Settings, settings_at}
use Rattle.textwrap_layout.specs.Paragraph.{DividesAs, Slice}
use Rattle.textwrap_layout.specs.Text.{AreTextLines}
use Rattle.textwrap_words.specs.WordSplitters.{Splitter, Whole}
use Rattle.textwrap_text.specs.declared.line_ending.LineEnding.TheVariants.{LF}
use Rattle.textwrap.specs.Columns.{RowLayout, row_layout, inner_width, row_count, cells, column_row}
use Rattle.textwrap.specs.Columns.{row_parts, cells_by_column}
use Rattle.textwrap.specs.InPlace.{IsFilledInPlace}
use Rattle.textwrap.specs.Indentation.{is_blank_line, ended_parts, indented, indented_part}
use Rattle.textwrap.specs.Indentation.{HasNoLineFeed, AreEndedParts, IsMarginOf, margin_of}
use Rattle.textwrap.specs.Indentation.{unindented_part}
use Rattle.textwrap.specs.Refilling.{IsCommonPrefix, common_prefix, is_prefix_character}
use Rattle.textwrap.specs.Refilling.{IsRefilled, IsPlain, blanked}
pub use Rattle.textwrap_lines.specs.Laws.{UnitsAreUnique, WordsAreUnique, BrokenPiecesAreUnique}
pub use Rattle.textwrap_lines.specs.Laws.{BrokenTextsTile, BrokenPiecesTile, BrokenWordsTile}
pub use Rattle.textwrap_lines.specs.Laws.{GreedyDivisionIsUnique, ChosenDivisionIsUnique}
pub use Rattle.textwrap_lines.specs.Laws.{TableDivisionIsUnique, TableOverflowIsOverflow}
pub use Rattle.textwrap_lines.specs.Laws.{TableHasLeastCosts}
pub use Rattle.textwrap_lines.specs.Laws.{ParagraphsAreUnique, PiecesAreUnique, IsUnique}
pub use Rattle.textwrap_lines.specs.Laws.{WordsAtAreUnique}
pub use Rattle.textwrap_lines.specs.Laws.{ForBuiltIn, DividedLinesAreUnique}
pub use Rattle.textwrap_lines.specs.Laws.{ParagraphLinesAreUnique, TextLinesAreUnique}
pub use Rattle.textwrap_lines.specs.Laws.{FilledTextIsUnique, TextLinesAreWrapped, PointsAreCuts}
pub use Rattle.textwrap_lines.specs.Laws.{EvenLinesKeepToWidth, PrintedLinesKeepToWidth}
pub use Rattle.textwrap_lines.specs.Laws.{SplitPiecesTile, SplitWordsTile, TextsAreNarrow}

-- a text is filled in place in one way at each width
abbrev pub FilledInPlaceIsUnique : Type 0
FilledInPlaceIsUnique = (width : ℕ) → IsUnique (IsFilledInPlace width)

-- the defaults at a width, but words stay whole
abbrev pub unbroken_at : ℕ → Settings
unbroken_at width = record (settings_at width) { break_words = false }

-- a text that is filled in place has the lines that first fit gives of whole words, but for the
-- blanks that its lines end in
abbrev pub FilledInPlaceIsWrapped : Type 0
FilledInPlaceIsWrapped =
    (width : ℕ) (text filled : List ℕ) → IsUtf8 text → IsFilledInPlace width text filled
    → AreTextLines (unbroken_at width) (DividesAs Whole ByFirstFit (unbroken_at width)) text
    (map (λ line. Slice (without_final_blanks line)) (paragraphs_of LF filled))

-- a text has its ended parts in one way, the computed one
abbrev pub EndedPartsAreUnique : Type 0
EndedPartsAreUnique =
    (text : List ℕ) (parts : List (List ℕ)) → AreEndedParts text parts ↔ (parts ≡ ended_parts text)

-- with a prefix without line feeds, the parts of the indented text are the parts, each indented
abbrev pub IndentsAreParts : Type 0
IndentsAreParts =
    (prefix text : List ℕ) → IsUtf8 prefix → HasNoLineFeed prefix
    → ended_parts (indented prefix text) ≡ map (indented_part prefix) (ended_parts text)

-- the prefix has no whitespace at its end, or no part is blank
abbrev pub KeepsPrefix : List ℕ → List ℕ → Type 0
KeepsPrefix prefix text =
    (trim_end prefix ≡ prefix) ⊎ All (λ part. is_blank_line part ≡ false) (ended_parts text)

-- then the whole prefix stands before each part
abbrev pub WholeIndents : Type 0
WholeIndents =
    (prefix text : List ℕ) → KeepsPrefix prefix text
    → indented prefix text ≡ flat_map (λ part. prefix ++ part) (ended_parts text)

-- and taken off again it leaves the parts, and so the text
abbrev pub IndentsComeOff : Type 0
IndentsComeOff =
    (prefix text : List ℕ) → HasNoLineFeed prefix → KeepsPrefix prefix text
    → let parts : List (List ℕ) = ended_parts (indented prefix text) in
    (map (drop (length prefix)) parts ≡ ended_parts text)
    × (flat_map (drop (length prefix)) parts ≡ text)

-- with any prefix that has no line feed, each part comes back without what was put before it, and so
-- does the text
abbrev pub IndentsComeBack : Type 0
IndentsComeBack =
    (prefix text : List ℕ) → IsUtf8 prefix → HasNoLineFeed prefix
    → let parts : List (List ℕ) = ended_parts (indented prefix text) in
    (map (unindented_part prefix) parts ≡ ended_parts text)
    × (flat_map (unindented_part prefix) parts ≡ text)

-- a text has one margin, the computed one
abbrev pub MarginsAreUnique : Type 0
MarginsAreUnique = (text margin : List ℕ) → IsMarginOf text margin ↔ (margin ≡ margin_of text)

-- each line that is not blank begins with the margin
abbrev pub LinesBeginWithMargin : Type 0
LinesBeginWithMargin =
    (text : List ℕ) → All (λ line. is_blank_line line ≡ false
    → StartsWith (chars line) (margin_of text)) (lines text)

-- texts have one common prefix, the computed one
abbrev pub CommonPrefixesAreUnique : Type 0
CommonPrefixesAreUnique =
    (texts : List (List ℕ)) (prefix : List ℕ)
    → IsCommonPrefix texts prefix ↔ (prefix ≡ common_prefix texts)

-- no line is indented
pub record IsUnindented (settings : Settings) : Type 0 where
  pub initial : settings.initial_indent ≡ []
  pub subsequent : settings.subsequent_indent ≡ []

-- a plain text that is refilled without indents is filled, a blank in the place of each line feed
abbrev pub RefilledIsFilled : Type 0
RefilledIsFilled =
    (settings : Settings) (splitter : Splitter) (algorithm : Algorithm) (text refilled : List ℕ)
    → IsUnindented settings → IsPlain text
    → IsRefilled settings (DividesAs splitter algorithm) text refilled
    ↔ IsFilled settings (DividesAs splitter algorithm settings) (blanked text) refilled

-- words stay whole, lines lose the blanks at their ends, and a line feed ends each
pub record KeepsWords (settings : Settings) : Type 0 where
  pub unbroken : settings.break_words ≡ false
  pub trimmed : settings.preserve_trailing_space ≡ false
  pub feeds : settings.line_ending ≡ LF

-- the text filled by these settings and this algorithm, and its words not split
abbrev pub IsFilledWhole : Settings → Algorithm → List ℕ → List ℕ → Type 0
IsFilledWhole settings algorithm = IsFilled settings (DividesAs Whole algorithm settings)

-- a plain text without line feeds, so filled without indents, is plain, and is the text but for
-- blanks that became line feeds
abbrev pub FilledIsPlain : Type 0
FilledIsPlain =
    (settings : Settings) (algorithm : Algorithm) (text filled : List ℕ)
    → KeepsWords settings → IsUnindented settings → IsPlain text
    → All (λ c. c ≢ line_feed) text → IsFilledWhole settings algorithm text filled
    → IsPlain filled × (blanked filled ≡ text)

-- so what is refilled after that, without indents, is what filling the text gives at once, whatever
-- the second settings, splitter and algorithm
abbrev pub FilledTwiceIsFilledOnce : Type 0
FilledTwiceIsFilledOnce =
    (first second : Settings) (one other : Algorithm) (splitter : Splitter)
    (text filled refilled : List ℕ) → KeepsWords first → IsUnindented first → IsUnindented second
    → IsPlain text → All (λ c. c ≢ line_feed) text → IsFilledWhole first one text filled
    → IsRefilled second (DividesAs splitter other) filled refilled
    ↔ IsFilled second (DividesAs splitter other second) text refilled

-- it has only characters that an indent may have
abbrev pub IsIndent : List ℕ → Type 0
IsIndent indent = All (λ c. is_prefix_character c ≡ true) indent

-- a plain text without line feeds, so filled under two indents into two lines or more
pub record IsIndentedFill (settings : Settings) (algorithm : Algorithm) (text filled : List ℕ)
    : Type 0 where
  pub keeps : KeepsWords settings
  pub initial : IsIndent settings.initial_indent
  pub subsequent : IsIndent settings.subsequent_indent
  pub plain : IsPlain text
  pub no_feed : All (λ c. c ≢ line_feed) text
  pub is_filled : IsFilledWhole settings algorithm text filled
  pub more : 2 ≤ length (lines filled)

-- these settings, with the indents of others
abbrev pub with_indents_as : Settings → Settings → Settings
with_indents_as other settings = record settings {
  initial_indent = other.initial_indent;
  subsequent_indent = other.subsequent_indent;
}

-- what is refilled after that is what filling the text under these indents gives at once
abbrev pub RefillingKeepsIndents : Type 0
RefillingKeepsIndents =
    (first second : Settings) (one other : Algorithm) (splitter : Splitter)
    (text filled refilled : List ℕ) → IsIndentedFill first one text filled
    → let indented : Settings = with_indents_as first second in
    IsRefilled second (DividesAs splitter other) filled refilled
    ↔ IsFilled indented (DividesAs splitter other indented) text refilled

-- and where that keeps words whole too, and has two lines or more, what is refilled once more is
-- what refilling the first filled text gives at once
abbrev pub RefilledTwiceIsRefilledOnce : Type 0
RefilledTwiceIsRefilledOnce =
    (first second third : Settings) (one other last : Algorithm) (splitter : Splitter)
    (text filled refilled again : List ℕ) → IsIndentedFill first one text filled
    → KeepsWords second → IsRefilled second (DividesAs Whole other) filled refilled
    → 2 ≤ length (lines refilled)
    → IsRefilled third (DividesAs splitter last) refilled again
    ↔ IsRefilled third (DividesAs splitter last) filled again

-- the parts of a row make its text
abbrev pub RowsAreParts : Type 0
RowsAreParts =
    (layout : RowLayout) (row : List (List ℕ))
    → flat_map (λ part. part) (row_parts layout row) ≡ column_row layout row

-- where no line is wider than a column, and the gaps leave room for all columns, the parts of each
-- row take together the columns of the gaps and the inner width, and these are the width
abbrev pub RowsAreEven : Type 0
RowsAreEven =
    (width columns : ℕ) (left middle right : List ℕ) (lines : List (List ℕ)) (r : ℕ)
    → let inner : ℕ = inner_width width columns left middle right in
    let layout : RowLayout = row_layout width columns left middle right in
    let row : List (List ℕ) = cells lines (row_count lines columns) columns r in
    let gaps : ℕ = text_width left + text_width right + (columns - 1) * text_width middle in
    1 ≤ columns → columns * layout.column_width ≤ inner
    → All (λ line. text_width line ≤ layout.column_width) lines
    → (sum_by text_width (row_parts layout row) ≡ gaps + inner) × (gaps + inner ≡ width)

-- the cells of a table, one column after another, are the lines, and then empty ones
abbrev pub ColumnsKeepLines : Type 0
ColumnsKeepLines =
    (lines : List (List ℕ)) (columns : ℕ) → 1 ≤ columns
    → (empty : ℕ) × (cells_by_column lines columns ≡ lines ++ replicate empty [])
