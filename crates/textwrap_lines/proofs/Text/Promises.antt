-- What `wrap` promises, by what the lines of each paragraph keep to.
use Rattle.textwrap_lines.proofs.Common.{paragraphs_of-utf8, ArePrintedWithin, AreTexts-words, Bool}
use Rattle.textwrap_lines.proofs.Common.{algorithm_view, CanKeepToWidth, ends_in_hyphen, AreWordsOf}
use Rattle.textwrap_lines.proofs.Common.{IsDividedInto, paragraphs_of, settings_view, splitter_view}
use Rattle.textwrap_lines.proofs.Common.{AreTextLines, ending_bytes, KeepsToWidth, KeepToWidths, []}
use Rattle.textwrap_lines.proofs.Common.{IsDividedBy, MaySeparate, pieces-tile, StartsWith, AreCuts}
use Rattle.textwrap_lines.proofs.Common.{append-nil, length-map, Algorithm, ArePoints, DividesAs, ℕ}
use Rattle.textwrap_lines.proofs.Common.{DividesBy, ByOptimalFit, line_from, MayDivide, AreTexts, flat}
use Rattle.textwrap_lines.proofs.Common.{MaySplit, Settings, sizes_of, Splitter, WordText, ByFirstFit}
use Rattle.textwrap_lines.proofs.Common.{IsUtf8, length, Option, arith, false, rules, subst, tiled}
use Rattle.textwrap_lines.proofs.Common.{Line, List, None, refl, Some, take, true, All, ◌<◌, ◌≡◌}
use Rattle.textwrap_lines.proofs.Common.{◌≢◌, ap}
use Rattle.textwrap_text.proofs.Common.{starts_with_of_append}
use Rattle.textwrap_layout.proofs.Common.{IsWrapped, LinesKeepToWidth}
use Rattle.textwrap_layout.specs.declared.options.Options.{Options}
use Rattle.textwrap_text.proofs.Lists.Parts.{Begins}
use Rattle.textwrap_words.proofs.Word.Pieces.{ArePoints-cuts, ArePoints-hyphens}
use Rattle.textwrap_layout.proofs.Paragraph.Pieces.{divided-begin, divided-blanks}
use Rattle.textwrap_layout.proofs.Paragraph.Widths.{PiecesClose, close-plain}
use Rattle.textwrap_layout.proofs.Text.Paragraphs.{parts_past-some}
use Rattle.textwrap_lines.proofs.Text.Groups.{groups-indented, groups-some, LosesOnlyBlanks-from}
use Rattle.textwrap_lines.proofs.Text.Groups.{groups-all, groups-map, groups-tile}
use Rattle.textwrap_lines.proofs.Paragraph.KeepsTo.{paragraph-indented, paragraph-no_hyphen}
use Rattle.textwrap_lines.proofs.Paragraph.KeepsTo.{first_width-own, HasNoHyphen, paragraph-keeps}
use Rattle.textwrap_lines.proofs.Paragraph.KeepsTo.{AreParts, paragraph-even, paragraph-some}
use Rattle.textwrap_lines.proofs.Paragraph.KeepsTo.{Divides}
use Rattle.textwrap_lines.proofs.Text.Printed.{ArePrintedWithin-by, print-plain}
use Rattle.textwrap_words.specs.declared.wrap_algorithms.WrapAlgorithm.TheVariants.{FirstFit}
use Rattle.textwrap_base.proofs.Division.Map.{IsDividedBy-some, IsDividedBy-whole}
use Rattle.textwrap_words.proofs.Word.Parts.{MaySeparate-texts, MaySplit-cuts, MaySplit-hyphens}
use Rattle.textwrap_words.proofs.Word.Divisions.{MayDivide-begins, MayDivide-greedy, MayDivide-some}
use Rattle.textwrap_words.proofs.Word.Divisions.{MayDivide-whole}

-- ---- the lines of a paragraph, and of a text

module _ (settings : Settings) (Words : List ℕ → List WordText → Type 0)
    (Points : List ℕ → List ℕ → Type 0)
    (Lines : List ℕ → List WordText → List (List WordText) → Type 0) where
  -- what the separator, the splitter and the algorithm keep to
  module _ (texts : (line : List ℕ) (words : List WordText) → IsUtf8 line → Words line words
      → AreTexts line words)
      (cuts : (text points : List ℕ) → IsUtf8 text → Points text points → AreCuts text points)
      (begins : (widths : List ℕ) (pieces : List WordText) (division : List (List WordText))
      → Lines widths pieces division → Begins pieces (flat division)) where
    divided-tile : ((widths : List ℕ) (pieces : List WordText) (division : List (List WordText))
        → Lines widths pieces division → flat division ≡ pieces)
        → (is_later : Bool) (paragraph : List ℕ) (division : List (List WordText))
        → IsUtf8 paragraph → Divides settings Words Points Lines is_later paragraph division
        → tiled (flat division) ≡ paragraph
    divided-tile whole is_later paragraph division utf8 (pieces, are, divided) =
        grind (arith, pieces-tile settings Words Points texts cuts paragraph pieces utf8 are)

    divided-starts : (is_later : Bool) (paragraph : List ℕ) (division : List (List WordText))
        → IsUtf8 paragraph → Divides settings Words Points Lines is_later paragraph division
        → StartsWith paragraph (tiled (flat division))
    divided-starts is_later paragraph division utf8 divided =
        let (rest, is) = divided-begin settings Words Points texts cuts Lines begins is_later
        paragraph division utf8 divided in search (rules, arith, starts_with_of_append)

    -- what is promised where the splitter and the algorithm are built in
    pub IsWrapped-by : (splitter : Option Splitter) (algorithm : Option Algorithm)
        → (splitter ≢ None → (text points : List ℕ) → Points text points
        → All (λ p. ends_in_hyphen (take p text) ≡ true) points)
        → (algorithm ≢ None → (widths : List ℕ) (pieces : List WordText)
        (division : List (List WordText)) → Lines widths pieces division → flat division ≡ pieces)
        → (algorithm ≢ None → (widths : List ℕ) (pieces : List WordText)
        (division : List (List WordText)) → Lines widths pieces division → 0 < length division)
        → (algorithm ≡ Some ByFirstFit → (widths : List ℕ) (pieces : List WordText)
        (division : List (List WordText)) → Lines widths pieces division
        → IsDividedBy ByFirstFit sizes_of widths pieces division)
        → (text : List ℕ) (lines : List Line) → IsUtf8 text
        → AreTextLines settings (Divides settings Words Points Lines) text lines
        → IsWrapped settings splitter algorithm (Divides settings Words Points Lines) text lines
    IsWrapped-by splitter algorithm hyphens whole divided-some greedy text lines utf8 are =
        let paragraphs = paragraphs_of settings.line_ending text in
        let all = paragraphs_of-utf8 settings.line_ending text utf8 in
        record {
          are = are;
          some = λ built_in.
              let some = groups-some settings paragraphs are.groups
              (parts_past-some (ending_bytes settings.line_ending) 0 text)
              (search (rules, arith, groups-map, paragraph-some)) in
              omega (arith, some, ap length are.given, length-map (flat are.groups) line_from);
          loses = search (rules, arith, LosesOnlyBlanks-from, divided-starts, divided-blanks);
          tile = λ built_in. groups-tile settings (Divides settings Words Points Lines) (divided-tile (whole built_in)) false
              paragraphs are.groups all are.defined;
          adds = record {
            indents = groups-indented settings false paragraphs are.groups
                (search (rules, arith, groups-map, paragraph-indented));
            no_hyphen = λ built_in. groups-all HasNoHyphen false paragraphs are.groups
                (search (rules, arith, groups-map, paragraph-no_hyphen));
          };
          keeps = λ first built_in breaks. groups-map IsUtf8 (AreParts settings Words Points Lines) (KeepToWidths settings)
              (paragraph-keeps settings Words Points Lines
              (close-plain settings Words Points breaks texts cuts (hyphens built_in)) (greedy first)
              breaks) false paragraphs are.groups all are.defined;
        }

    -- where lines are divided by first fit
    pub LinesKeepToWidth-by : PiecesClose settings Words Points
        → ((widths : List ℕ) (pieces : List WordText) (division : List (List WordText))
        → Lines widths pieces division → IsDividedBy ByFirstFit sizes_of widths pieces division)
        → (text : List ℕ) (lines : List Line) → IsUtf8 text
        → settings.even_paragraphs ≡ true → settings.break_words ≡ true
        → AreTextLines settings (Divides settings Words Points Lines) text lines → LinesKeepToWidth settings (Divides settings Words Points Lines) text lines
    LinesKeepToWidth-by close greedy text lines utf8 even breaks are =
        let ending = settings.line_ending in
        let paragraphs = paragraphs_of ending text in (
          are,
          groups-all (KeepsToWidth settings.width) false paragraphs are.groups
              (groups-map IsUtf8 (AreParts settings Words Points Lines)
              (λ is_later paragraph parts. All (KeepsToWidth settings.width) parts)
              (λ is_later. paragraph-even settings Words Points Lines close greedy breaks is_later (first_width-own settings even is_later)) false paragraphs are.groups
              (paragraphs_of-utf8 ending text utf8) are.defined),
        )

-- ---- what `wrap` promises, by the options

-- by built-in parts
greedy-is : (algorithm : Algorithm) → Some algorithm ≡ Some ByFirstFit → algorithm ≡ ByFirstFit
greedy-is ByFirstFit is = refl
greedy-is (ByOptimalFit penalties) is = cc

-- by words that are texts of their lines
pub IsWrapped-parts : (Words : List ℕ → List WordText → Type 0)
    → ((line : List ℕ) (words : List WordText) → IsUtf8 line → Words line words
    → AreTexts line words)
    → (settings : Settings) (algorithm : Algorithm) (splitter : Splitter)
    (text : List ℕ) (lines : List Line) → IsUtf8 text
    → let Divides : Bool → List ℕ → List (List WordText) → Type 0 =
    IsDividedInto settings Words (ArePoints splitter) (IsDividedBy algorithm sizes_of) in
    AreTextLines settings Divides text lines
    → IsWrapped settings (Some splitter) (Some algorithm) Divides text lines
IsWrapped-parts Words texts settings algorithm splitter text lines utf8 are =
    IsWrapped-by settings Words (ArePoints splitter) (IsDividedBy algorithm sizes_of)
    texts (ArePoints-cuts splitter)
    (λ widths pieces division divided. ([], search (rules, arith, append-nil, IsDividedBy-whole)))
    (Some splitter) (Some algorithm) (λ _. ArePoints-hyphens splitter)
    (λ _. IsDividedBy-whole sizes_of algorithm) (λ _. IsDividedBy-some sizes_of algorithm)
    (λ first widths pieces division divided.
    subst (λ a. IsDividedBy a sizes_of widths pieces division) (greedy-is algorithm first) divided)
    text lines utf8 are

pub LinesKeepToWidth-from : (settings : Settings) (splitter : Splitter) (text : List ℕ)
    (lines : List Line) → IsUtf8 text → settings.even_paragraphs ≡ true
    → settings.break_words ≡ true
    → AreTextLines settings (DividesAs splitter ByFirstFit settings) text lines
    → LinesKeepToWidth settings (DividesAs splitter ByFirstFit settings) text lines
LinesKeepToWidth-from settings splitter text lines utf8 even breaks are =
    LinesKeepToWidth-by settings AreWordsOf (ArePoints splitter) (IsDividedBy ByFirstFit sizes_of)
    AreTexts-words (ArePoints-cuts splitter)
    (λ widths pieces division divided. ([], search (rules, arith, append-nil, IsDividedBy-whole)))
    (close-plain settings AreWordsOf (ArePoints splitter) breaks AreTexts-words
    (ArePoints-cuts splitter) (ArePoints-hyphens splitter)) (λ widths pieces division divided. divided)
    text lines utf8 even breaks are

module _ {E C : Type 0} {e : _} {c : _} (options : Options E C e c) where
  pub IsWrapped-options : (text : List ℕ) (lines : List Line) → IsUtf8 text
      → AreTextLines (settings_view options) (DividesBy options) text lines
      → IsWrapped (settings_view options) (splitter_view options.word_splitter)
      (algorithm_view options.wrap_algorithm) (DividesBy options) text lines
  IsWrapped-options text lines utf8 are =
      let algorithm = options.wrap_algorithm in
      IsWrapped-by (settings_view options) (MaySeparate options.word_separator)
      (MaySplit options.word_splitter) (MayDivide algorithm (λ w. w))
      (MaySeparate-texts options.word_separator) (MaySplit-cuts options.word_splitter)
      (MayDivide-begins algorithm (λ w. w))
      (splitter_view options.word_splitter) (algorithm_view algorithm)
      (MaySplit-hyphens options.word_splitter)
      (λ built_in widths pieces division. MayDivide-whole algorithm (λ w. w) widths pieces division
      built_in)
      (λ built_in widths pieces division. MayDivide-some algorithm (λ w. w) widths pieces division
      built_in)
      (λ first widths pieces division. MayDivide-greedy algorithm (λ w. w) widths pieces division
      first) text lines utf8 are

  pub LinesKeepToWidth-options : (text : List ℕ) (lines : List Line) → IsUtf8 text
      → options.even_paragraphs ≡ true → options.wrap_algorithm ≡ FirstFit
      → splitter_view options.word_splitter ≢ None → options.break_words ≡ true
      → AreTextLines (settings_view options) (DividesBy options) text lines
      → LinesKeepToWidth (settings_view options) (DividesBy options) text lines
  LinesKeepToWidth-options text lines utf8 even first built_in breaks are =
      let algorithm = options.wrap_algorithm in
      LinesKeepToWidth-by (settings_view options) (MaySeparate options.word_separator)
      (MaySplit options.word_splitter) (MayDivide algorithm (λ w. w))
      (MaySeparate-texts options.word_separator) (MaySplit-cuts options.word_splitter)
      (MayDivide-begins algorithm (λ w. w))
      (close-plain (settings_view options) (MaySeparate options.word_separator)
      (MaySplit options.word_splitter) breaks (MaySeparate-texts options.word_separator)
      (MaySplit-cuts options.word_splitter) (MaySplit-hyphens options.word_splitter built_in))
      (λ widths pieces division. MayDivide-greedy algorithm (λ w. w) widths pieces division
      (ap algorithm_view first)) text lines utf8 even breaks are

  pub ArePrintedWithin-options : (text : List ℕ) (lines : List Line) → IsUtf8 text
      → options.wrap_algorithm ≡ FirstFit → splitter_view options.word_splitter ≢ None
      → CanKeepToWidth (settings_view options) text
      → AreTextLines (settings_view options) (DividesBy options) text lines
      → ArePrintedWithin (settings_view options) (DividesBy options) text lines
  ArePrintedWithin-options text lines utf8 first built_in can are =
      let algorithm = options.wrap_algorithm in
      ArePrintedWithin-by (settings_view options) (MaySeparate options.word_separator)
      (MaySplit options.word_splitter) (MayDivide algorithm (λ w. w))
      (MaySeparate-texts options.word_separator) (MaySplit-cuts options.word_splitter)
      (λ breaks. close-plain (settings_view options) (MaySeparate options.word_separator)
      (MaySplit options.word_splitter) breaks (MaySeparate-texts options.word_separator)
      (MaySplit-cuts options.word_splitter) (MaySplit-hyphens options.word_splitter built_in))
      (print-plain (settings_view options) (MaySeparate options.word_separator)
      (MaySplit options.word_splitter) (MaySeparate-texts options.word_separator)
      (MaySplit-cuts options.word_splitter) (MaySplit-hyphens options.word_splitter built_in))
      (λ widths pieces division. MayDivide-greedy algorithm (λ w. w) widths pieces division
      (ap algorithm_view first)) text lines utf8 can are
