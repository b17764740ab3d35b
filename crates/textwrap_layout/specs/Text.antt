-- The lines of a text.
use Rattle.std.specs.Prelude.{◌≡◌, ◌≢◌, ℕ, ◌<◌, Bool, true, false, ◌||◌, nat_lt, List, [], ◌∷◌}
use Rattle.std.specs.Prelude.{◌++◌, ◌≤◌, ◌⊎◌, length, map, All, Option, Some, None, chars, IsUtf8}
use Rattle.std.specs.Io.{StartsWith}
use Rattle.std.specs.List.{flat_map}
use Rattle.textwrap_text.specs.Blanks.{is_blank}
use Rattle.textwrap_text.specs.Units.{escape, units, IsWhole, text_width}
use Rattle.textwrap_words.specs.Words.{WordText}
use Rattle.textwrap_text.specs.LineEnding.{paragraphs_of}
use Rattle.textwrap_layout.specs.Options.{Settings, settings_view}
use Rattle.textwrap_words.specs.WordSplitters.{Splitter}
use Rattle.textwrap_words.specs.WrapAlgorithms.{Algorithm, ByFirstFit}
use Rattle.textwrap_layout.specs.Paragraph.{Line, LineParts, line_bytes, line_from}
use Rattle.textwrap_layout.specs.Paragraph.{AreParagraphParts, IsOneCharacter, MayPass64BitsUnder}
use Rattle.textwrap_layout.specs.Paragraph.{AreIndented, KeepToWidths, KeepsToWidth}
use Rattle.textwrap_layout.specs.Paragraph.{DividesByDefault}
use Rattle.textwrap_text.specs.declared.line_ending.LineEnding.{LineEnding}
use Rattle.textwrap_layout.specs.declared.options.Options.{Options}

module _ (Are : Bool → List ℕ → List LineParts → Type 0) where
  -- a group of lines for each paragraph, where `is_later` says that a line stands before them
  abbrev pub AreGroups : Bool → List (List ℕ) → List (List LineParts) → Type 0
  AreGroups is_later [] groups = groups ≡ []
  AreGroups is_later (paragraph ∷ paragraphs) [] = ⊥
  AreGroups is_later (paragraph ∷ paragraphs) (parts ∷ groups) =
      Are is_later paragraph parts
      × AreGroups (is_later || nat_lt 0 (length parts)) paragraphs groups

-- the lines of a text are those of its paragraphs
pub record AreTextLines (settings : Settings)
    (Divides : Bool → List ℕ → List (List WordText) → Type 0) (text : List ℕ) (lines : List Line)
    : Type 0 where
  pub groups : List (List LineParts)
  pub defined : AreGroups (AreParagraphParts settings Divides) false
      (paragraphs_of settings.line_ending text) groups
  pub given : lines ≡ map line_from (flat_map (λ parts. parts) groups)

-- this holds of some paragraph of the text
abbrev pub HasParagraphThat : (List ℕ → Type 0) → LineEnding → List ℕ → Type 0
HasParagraphThat Holds ending text =
    (before : List (List ℕ)) × (paragraph : List ℕ) × (after : List (List ℕ))
    × (paragraphs_of ending text ≡ before ++ paragraph ∷ after) × Holds paragraph

-- under these settings some paragraph of the text may have pieces whose widths pass 64 bits together
abbrev pub SomeMayPass64BitsUnder : {E C : Type 0} {e : _} {c : _} → Options E C e c → Settings
    → List ℕ → Type 0
SomeMayPass64BitsUnder o settings =
    HasParagraphThat (MayPass64BitsUnder o settings) settings.line_ending

abbrev pub SomeMayPass64Bits : {E C : Type 0} {e : _} {c : _} → Options E C e c → List ℕ → Type 0
SomeMayPass64Bits o = SomeMayPass64BitsUnder o (settings_view o)

-- the lines of a text by these settings and this algorithm, with the default separator and splitter
abbrev pub AreLinesBy : Settings → Algorithm → List ℕ → List Line → Type 0
AreLinesBy settings algorithm = AreTextLines settings (DividesByDefault settings algorithm)

-- what lines cover: their slices, each followed by what was left off
abbrev pub covered_by : List LineParts → List ℕ
covered_by parts = flat_map (λ p. p.slice ++ p.left_off) parts

-- what was left off after the line is blanks
abbrev pub LeavesOffBlanks : LineParts → Type 0
LeavesOffBlanks p = All (λ c. is_blank c ≡ true) p.left_off

-- in each paragraph the lines cover its beginning; what was left off is blanks, and nothing where
-- blanks are preserved
pub record LosesOnlyBlanks (settings : Settings) (text : List ℕ) (groups : List (List LineParts))
    : Type 0 where
  pub begin : AreGroups (λ is_later paragraph parts. StartsWith paragraph (covered_by parts)) false
      (paragraphs_of settings.line_ending text) groups
  pub blanks : All LeavesOffBlanks (flat_map (λ parts. parts) groups)
  pub kept : settings.preserve_trailing_space ≡ true
      → All (λ p. p.left_off ≡ []) (flat_map (λ parts. parts) groups)

-- each line begins with its indent, and where the splitter is built in, nothing else is added
pub record AddsOnlyIndents (settings : Settings) (splitter : Option Splitter)
    (groups : List (List LineParts)) : Type 0 where
  pub indents : AreIndented settings false (flat_map (λ parts. parts) groups)
  pub no_hyphen : splitter ≢ None → All (λ p. p.penalty ≡ []) (flat_map (λ parts. parts) groups)

-- the lines of a text, and what they keep to. Where a caller gives the ends of lines, the last
-- words of a paragraph may be lost; where a caller gives the points of words, hyphens may be added,
-- and lines may be wider
pub record IsWrapped (settings : Settings) (splitter : Option Splitter)
    (algorithm : Option Algorithm) (Divides : Bool → List ℕ → List (List WordText) → Type 0)
    (text : List ℕ) (lines : List Line) : Type 0 where
  pub are : AreTextLines settings Divides text lines
  pub some : algorithm ≢ None → 0 < length lines
  pub loses : LosesOnlyBlanks settings text are.groups
  pub tile : algorithm ≢ None
      → map covered_by are.groups ≡ paragraphs_of settings.line_ending text
  pub adds : AddsOnlyIndents settings splitter are.groups
  pub keeps : algorithm ≡ Some ByFirstFit → splitter ≢ None → settings.break_words ≡ true
      → AreGroups (KeepToWidths settings) false (paragraphs_of settings.line_ending text) are.groups

-- the lines of a text, each of which keeps to the width with its indent, or has to pass it
abbrev pub LinesKeepToWidth : Settings → (Bool → List ℕ → List (List WordText) → Type 0)
    → List ℕ → List Line → Type 0
LinesKeepToWidth settings Divides text lines =
    (are : AreTextLines settings Divides text lines)
    × All (KeepsToWidth settings.width) (flat_map (λ parts. parts) are.groups)

-- ---- lines as they are printed

-- each escape sequence of the text ends in it
abbrev pub HasWholeSequences : List ℕ → Type 0
HasWholeSequences text = All IsWhole (units (chars text))

-- no escape sequence begins in the text
abbrev pub HasNoEscape : List ℕ → Type 0
HasNoEscape text = All (λ c. c ≢ escape) (chars text)

-- no sequence goes on after the indent, or after a piece of the line
abbrev pub CutsNoSequence : LineParts → Type 0
CutsNoSequence p =
    HasWholeSequences p.indent × All (λ w. HasWholeSequences w.word) p.pieces

-- the line takes no more columns, or its indent alone takes more, or it has one piece with one
-- character that takes columns
abbrev pub IsPrintedWithin : ℕ → LineParts → Type 0
IsPrintedWithin width p =
    (text_width (line_bytes (line_from p)) ≤ width) ⊎ (width < text_width p.indent)
    ⊎ IsOneCharacter p.pieces

-- words are broken and line ends trimmed, each line is divided for what its own indent leaves of
-- the width, and indents are texts
pub record CanKeepToWidth (settings : Settings) (text : List ℕ) : Type 0 where
  pub breaks : settings.break_words ≡ true
  pub trims : settings.preserve_trailing_space ≡ false
  pub even : (settings.even_paragraphs ≡ true)
      ⊎ (paragraphs_of settings.line_ending text ≡ text ∷ [])
  pub initial : IsUtf8 settings.initial_indent
  pub subsequent : IsUtf8 settings.subsequent_indent

-- the lines of a text, each within the width as it is printed if it cuts no escape sequence; none
-- does where neither the text nor the indents have any
pub record ArePrintedWithin (settings : Settings)
    (Divides : Bool → List ℕ → List (List WordText) → Type 0) (text : List ℕ) (lines : List Line)
    : Type 0 where
  pub are : AreTextLines settings Divides text lines
  pub within : All (λ p. CutsNoSequence p → IsPrintedWithin settings.width p)
      (flat_map (λ parts. parts) are.groups)
  pub whole : HasNoEscape text → HasNoEscape settings.initial_indent
      → HasNoEscape settings.subsequent_indent
      → All CutsNoSequence (flat_map (λ parts. parts) are.groups)
