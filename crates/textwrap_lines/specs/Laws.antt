-- What the laws say.
use Rattle.std.specs.Prelude.{◌≡◌, ◌↔◌, ℕ, Bool, true, List, IsUtf8, Some}
use Rattle.textwrap_words.specs.Words.{WordText, AreWordsOf}
use Rattle.textwrap_words.specs.WrapAlgorithms.{Algorithm, ByFirstFit}
use Rattle.textwrap_layout.specs.Filling.{IsFilled}
use Rattle.textwrap_text.specs.LineEnding.{AreParagraphs, paragraphs_of}
use Rattle.textwrap_layout.specs.Options.{Settings}
use Rattle.textwrap_layout.specs.Paragraph.{ArePieces, pieces_of, DividesAs, AreDividedParts}
use Rattle.textwrap_layout.specs.Paragraph.{AreParagraphParts, Line}
use Rattle.textwrap_layout.specs.Text.{AreTextLines, IsWrapped, LinesKeepToWidth, CanKeepToWidth}
use Rattle.textwrap_layout.specs.Text.{ArePrintedWithin}
use Rattle.textwrap_words.specs.WordSplitters.{Splitter, ArePoints}
use Rattle.textwrap_text.specs.declared.line_ending.LineEnding.{LineEnding}
pub use Rattle.textwrap_words.specs.Laws.{UnitsAreUnique, WordsAreUnique, BrokenPiecesAreUnique}
pub use Rattle.textwrap_words.specs.Laws.{BrokenTextsTile, BrokenPiecesTile, BrokenWordsTile}
pub use Rattle.textwrap_words.specs.Laws.{GreedyDivisionIsUnique, ChosenDivisionIsUnique}
pub use Rattle.textwrap_words.specs.Laws.{TableDivisionIsUnique, TableOverflowIsOverflow}
pub use Rattle.textwrap_words.specs.Laws.{TableHasLeastCosts, WordsAtAreUnique, PointsAreCuts}
pub use Rattle.textwrap_words.specs.Laws.{SplitPiecesTile, SplitWordsTile, TextsAreNarrow}

-- a text has its paragraphs in one way, the computed one
abbrev pub ParagraphsAreUnique : Type 0
ParagraphsAreUnique =
    (ending : LineEnding) (text : List ℕ) (paragraphs : List (List ℕ))
    → AreParagraphs ending text paragraphs ↔ (paragraphs ≡ paragraphs_of ending text)

-- by built-in parts a paragraph has exactly the computed pieces
abbrev pub PiecesAreUnique : Type 0
PiecesAreUnique =
    (settings : Settings) (splitter : Splitter) (paragraph : List ℕ) (pieces : List WordText)
    → ArePieces settings AreWordsOf (ArePoints splitter) paragraph pieces
    ↔ (pieces ≡ pieces_of settings splitter paragraph)

-- each value has one of these at most
abbrev pub IsUnique : {B : Type 0} → (List ℕ → B → Type 0) → Type 0
IsUnique {B} Is = (x : List ℕ) (first second : B) → Is x first → Is x second → first ≡ second

-- whatever the settings, for built-in parts
abbrev pub ForBuiltIn : (Settings → (Bool → List ℕ → List (List WordText) → Type 0) → Type 0)
    → Type 0
ForBuiltIn Holds =
    (settings : Settings) (algorithm : Algorithm) (splitter : Splitter)
    → Holds settings (DividesAs splitter algorithm settings)

abbrev pub DividedLinesAreUnique : Type 0
DividedLinesAreUnique =
    ForBuiltIn (λ settings Divides. (is_later : Bool)
    → IsUnique (AreDividedParts settings Divides is_later))

abbrev pub ParagraphLinesAreUnique : Type 0
ParagraphLinesAreUnique =
    ForBuiltIn (λ settings Divides. (is_later : Bool)
    → IsUnique (AreParagraphParts settings Divides is_later))

abbrev pub TextLinesAreUnique : Type 0
TextLinesAreUnique = ForBuiltIn (λ settings Divides. IsUnique (AreTextLines settings Divides))

abbrev pub FilledTextIsUnique : Type 0
FilledTextIsUnique = ForBuiltIn (λ settings Divides. IsUnique (IsFilled settings Divides))

-- by built-in parts the lines of a text lose only blanks and add only indents, and by first fit, if
-- words are broken, they keep to their widths
abbrev pub TextLinesAreWrapped : Type 0
TextLinesAreWrapped =
    (settings : Settings) (algorithm : Algorithm) (splitter : Splitter) (text : List ℕ)
    (lines : List Line) → IsUtf8 text
    → let Divides : Bool → List ℕ → List (List WordText) → Type 0 =
    DividesAs splitter algorithm settings in
    AreTextLines settings Divides text lines
    → IsWrapped settings (Some splitter) (Some algorithm) Divides text lines

-- where paragraphs are even and words broken, by first fit the lines keep to the width with their
-- indents, if they can
abbrev pub EvenLinesKeepToWidth : Type 0
EvenLinesKeepToWidth =
    (settings : Settings) (splitter : Splitter) (text : List ℕ) (lines : List Line) → IsUtf8 text
    → settings.even_paragraphs ≡ true → settings.break_words ≡ true
    → let Divides : Bool → List ℕ → List (List WordText) → Type 0 =
    DividesAs splitter ByFirstFit settings in
    AreTextLines settings Divides text lines → LinesKeepToWidth settings Divides text lines

-- by first fit the lines keep to the width as they are printed, where they can
abbrev pub PrintedLinesKeepToWidth : Type 0
PrintedLinesKeepToWidth =
    (settings : Settings) (splitter : Splitter) (text : List ℕ) (lines : List Line) → IsUtf8 text
    → CanKeepToWidth settings text
    → let Divides : Bool → List ℕ → List (List WordText) → Type 0 =
    DividesAs splitter ByFirstFit settings in
    AreTextLines settings Divides text lines → ArePrintedWithin settings Divides text lines
