-- The lines of a text whose words are split where a dictionary has hyphens, and behind hyphens of
-- their own.
pub use Rattle.textwrap_hyphens.specs.Splitting.{ArePointsBy, is_split_point, split_points}
use Rattle.std.specs.List.{flat_map}
use Rattle.std.specs.Prelude.{◌≡◌, ℕ, ◌+◌, ◌<◌, ◌≤◌, ◌⊎◌, ⊤, All, Bool, false, List, [], ◌∷◌}
use Rattle.std.specs.Prelude.{MatchBool, Some, length, map}
use Rattle.textwrap_base.specs.Division.{closed_width, line_width}
use Rattle.textwrap_hyphens.specs.Hyphenation.{Hyphenation}
use Rattle.textwrap_layout.specs.{Options.Settings, Paragraph.IsDividedInto}
use Rattle.textwrap_layout.specs.Paragraph.{Line, LineParts, is_whole, line_from, widths_of}
use Rattle.textwrap_layout.specs.Text.{AreGroups, AreTextLines, LeavesOffBlanks, covered_by}
use Rattle.textwrap_layout.specs.declared.options.Options.{Options}
use Rattle.textwrap_text.specs.{LineEnding.paragraphs_of, Units.column_characters}
use Rattle.textwrap_words.specs.{WordSeparators.MaySeparate, WordSplitters.hyphen}
use Rattle.textwrap_words.specs.Words.{AreWordsOf, WordText, sizes_of}
use Rattle.textwrap_words.specs.WrapAlgorithms.{Algorithm, IsDividedBy, MayDivide, algorithm_view}
use Rattle.textwrap_words.specs.declared.word_separators.WordSeparator.TheVariants.{AsciiSpace}

-- a paragraph may be divided so by the separator and the algorithm of the options, under these
-- settings, with its words split at points by the dictionary
abbrev pub DividesHyphenatedUnder : {E C : Type 0} {e : _} {c : _} → Options E C e c → Hyphenation
    → Settings → Bool → List ℕ → List (List WordText) → Type 0
DividesHyphenatedUnder o h settings =
    IsDividedInto settings (MaySeparate o.word_separator) (ArePointsBy h)
    (MayDivide o.wrap_algorithm (λ w. w))

-- the same by words between blanks and this algorithm
abbrev pub DividesAtPoints : Hyphenation → Algorithm → Settings → Bool → List ℕ
    → List (List WordText) → Type 0
DividesAtPoints h algorithm settings =
    IsDividedInto settings AreWordsOf (ArePointsBy h) (IsDividedBy algorithm sizes_of)

-- words stand between blanks, and the algorithm is this one
pub record HasPartsBeside {E C : Type 0} {e : _} {c : _} (o : Options E C e c)
    (algorithm : Algorithm) : Type 0 where
  pub separator : o.word_separator ≡ AsciiSpace
  pub algorithm_is : algorithm_view o.wrap_algorithm ≡ Some algorithm

-- ---- what the lines keep to

-- behind what the line covers nothing is printed, or a hyphen
abbrev pub AddsHyphenAtMost : LineParts → Type 0
AddsHyphenAtMost p = (p.penalty ≡ []) ⊎ (p.penalty ≡ hyphen ∷ [])

-- the lines of a text, each with a hyphen added at most
pub record AddOnlyHyphens (settings : Settings)
    (Divides : Bool → List ℕ → List (List WordText) → Type 0) (text : List ℕ) (lines : List Line)
    : Type 0 where
  pub are : AreTextLines settings Divides text lines
  pub hyphens : All AddsHyphenAtMost (flat_map (λ parts. parts) are.groups)

-- the lines are the text: take off their indents and the hyphens behind them, put back the blanks that
-- were left off, and they are its paragraphs
pub record AreTheText (settings : Settings) (text : List ℕ) (lines : List Line) : Type 0 where
  pub groups : List (List LineParts)
  pub given : lines ≡ map line_from (flat_map (λ parts. parts) groups)
  pub covered : map covered_by groups ≡ paragraphs_of settings.line_ending text
  pub hyphens : All AddsHyphenAtMost (flat_map (λ parts. parts) groups)
  pub blanks : All LeavesOffBlanks (flat_map (λ parts. parts) groups)

-- one piece, which keeps to the width but for its hyphen, or has one character that takes columns
abbrev pub KeepsButHyphen : ℕ → List WordText → Type 0
KeepsButHyphen width line =
    (w : WordText) × (line ≡ w ∷ [])
    × ((w.width ≤ width) ⊎ (length (column_characters w.word) ≡ 1))

-- each line that closes past its width is one such piece, where `number` is that of the first line
abbrev pub OnlyHyphensPass : List ℕ → ℕ → List (List WordText) → Type 0
OnlyHyphensPass widths number [] = ⊤
OnlyHyphensPass widths number (line ∷ lines) =
    (line_width widths number < closed_width sizes_of line
    → KeepsButHyphen (line_width widths number) line)
    × OnlyHyphensPass widths (number + 1) lines

-- no line of a divided paragraph but such a one passes the width that it was divided for; a whole
-- paragraph keeps to the width
abbrev pub KeepButHyphens : Settings → Bool → List ℕ → List LineParts → Type 0
KeepButHyphens settings is_later paragraph parts =
    let lines = map (λ p. p.pieces) parts in
    MatchBool (is_whole settings is_later paragraph)
    (All (λ line. closed_width sizes_of line ≤ settings.width) lines)
    (OnlyHyphensPass (widths_of settings is_later) 0 lines)

-- the lines of a text, which keep to their widths but for hyphens
pub record LinesKeepButHyphens (settings : Settings)
    (Divides : Bool → List ℕ → List (List WordText) → Type 0) (text : List ℕ) (lines : List Line)
    : Type 0 where
  pub are : AreTextLines settings Divides text lines
  pub keep : AreGroups (KeepButHyphens settings) false (paragraphs_of settings.line_ending text)
      are.groups
