-- The words of a line by options without functions, and what lines of them keep to.
use Rattle.textwrap.proofs.Common.{⊎_elim, text_width-nil}
use Rattle.textwrap_base.proofs.Division.Map.{IsDividedBy-some, IsDividedBy-whole}
use Rattle.textwrap_hyphens.proofs.SplitPieces.{HasHyphenAtMost}
use Rattle.textwrap_hyphens.specs.Outside.{is_hyphen_outside}
use Rattle.textwrap_layout.proofs.Common.{IsWrapped, LinesKeepToWidth, ArePieces}
use Rattle.textwrap_layout.proofs.Paragraph.Pieces.{AreWordsCut-texts, pieces-no_penalty}
use Rattle.textwrap_layout.proofs.Paragraph.Widths.{PiecesClose, close-plain}
use Rattle.textwrap_lines.proofs.Common.{ArePrintedWithin, AreTextLines, CanKeepToWidth, Line}
use Rattle.textwrap_lines.proofs.Common.{Settings, later_width, All, All-weaker, Bool, IsUtf8, List}
use Rattle.textwrap_lines.proofs.Common.{None, Some, [], arith, append-nil, false, ◌<◌, ◌∙◌, ◌∷◌, refl}
use Rattle.textwrap_lines.proofs.Common.{cases_Bool, inl, inr, rules, subst, sym, take, true, ℕ, ◌≡◌, ◌≢◌, flat}
use Rattle.textwrap_lines.proofs.Common.{Algorithm, ByFirstFit, IsDividedBy, WordText, as_splitter}
use Rattle.textwrap_lines.proofs.Common.{ends_in_hyphen, sizes_of, AreTexts, HasNoPenalty}
use Rattle.textwrap_lines.proofs.Text.Printed.{ArePrintedWithin-by, PrintsPenalty}
use Rattle.textwrap_lines.proofs.Text.Promises.{IsWrapped-by, LinesKeepToWidth-by}
use Rattle.textwrap_plain.proofs.Pieces.{hyphen-prints, hyphenated-close, hyphenated-hyphens}
use Rattle.textwrap_plain.proofs.Wrapping.{LinesKeepButHyphens-by, hyphens-alone}
use Rattle.textwrap_plain.specs.CutSides.{points_by-cuts, points_by-inner, words_by-cut}
use Rattle.textwrap_plain.specs.Hyphenated.{AddOnlyHyphens, AddsHyphenAtMost, AreTheText}
use Rattle.textwrap_plain.specs.Hyphenated.{LinesKeepButHyphens}
use Rattle.textwrap_plain.specs.Options.{DividesFrom, adds_as, is_dictionary, points_by}
use Rattle.textwrap_plain.specs.{Options.words_by, declared.options.PlainSeparator.PlainSeparator}
use Rattle.textwrap_plain.specs.declared.options.PlainSplitter.{PlainSplitter}
use Rattle.textwrap_plain.specs.declared.options.PlainSplitter.TheVariants.{BuiltIn, Dictionary}
use Rattle.textwrap_plain.specs.declared.options.PlainSplitter.TheVariants.{OutsideSequences}
use Rattle.std.proofs.lemmas.{Bool.and_parts, List.Elements.filter_passes}
use Rattle.textwrap_words.proofs.{Common.{hyphen, Begins}, Word.Pieces.ArePoints-hyphens}
use Rattle.textwrap_words.specs.WordSplitters.{inner_offsets}

-- the words of a line are texts of it
pub words_by-texts : (separator : PlainSeparator) (line : List ℕ) → IsUtf8 line
    → AreTexts line (words_by separator line)
words_by-texts separator line utf8 =
    AreWordsCut-texts line (words_by separator line) utf8 (words_by-cut separator line utf8)

-- ---- what lines keep to that are divided by the words of options without functions

pub texts-at : (separator : PlainSeparator) (line : List ℕ) (words : List WordText) → IsUtf8 line
    → words ≡ words_by separator line → AreTexts line words
texts-at separator line words utf8 is =
    subst (AreTexts line) (sym is) (words_by-texts separator line utf8)

-- only a dictionary has points that no hyphen of the word stands before
pub points_by-hyphens : (splitter : PlainSplitter) → is_dictionary splitter ≡ false → (text points : List ℕ)
    → points ≡ points_by splitter text → All (λ p. ends_in_hyphen (take p text) ≡ true) points
points_by-hyphens (BuiltIn splitter) is = ArePoints-hyphens (as_splitter splitter)
points_by-hyphens OutsideSequences is = λ text points are.
    All-weaker (λ p. is_hyphen_outside text p ≡ true) (λ p. ends_in_hyphen (take p text) ≡ true)
    (λ p found. (and_parts _ _ (and_parts _ _ (and_parts _ _ found).0).0).0) points
    (subst (All (λ p. is_hyphen_outside text p ≡ true)) (sym are)
    (filter_passes (is_hyphen_outside text) (inner_offsets text)))
points_by-hyphens (Dictionary table) is = cc

adds-no_hyphen : (splitter : PlainSplitter) → adds_as splitter ≢ None → is_dictionary splitter ≡ false
adds-no_hyphen (BuiltIn splitter) adds = refl
adds-no_hyphen OutsideSequences adds = refl
adds-no_hyphen (Dictionary table) adds = absurd (adds refl)

-- ---- the pieces of a paragraph

module _ (separator : PlainSeparator) (settings : Settings) (splitter : PlainSplitter) where
  abbrev Words : List ℕ → List WordText → Type 0
  Words line words = words ≡ words_by separator line

  abbrev Points : List ℕ → List ℕ → Type 0
  Points word points = points ≡ points_by splitter word

  -- each keeps to a later line that ends with it, or has one character that takes columns
  pub close-at : settings.room_for_hyphens ≡ is_dictionary splitter
      → (is_dictionary splitter ≡ true → 0 < later_width settings) → settings.break_words ≡ true
      → PiecesClose settings Words Points
  close-at asked room breaks = elim (cases_Bool (is_dictionary splitter)) [
    | inl is ↦
        hyphenated-close settings Words (texts-at separator) Points (points_by-inner splitter) (asked ∙ is)
        (room is) breaks
    | inr not ↦
        close-plain settings Words Points breaks (texts-at separator) (points_by-cuts splitter)
        (points_by-hyphens splitter not)
  ]

  -- what holds of each piece without a penalty, and by a dictionary of each with a hyphen
  pub pieces-at : (P : Bool → WordText → Type 0) → ((b : Bool) (w : WordText) → HasNoPenalty w → P b w)
      → ((w : WordText) → w.penalty ≡ hyphen ∷ [] → P true w)
      → (paragraph : List ℕ) (pieces : List WordText) → IsUtf8 paragraph
      → ArePieces settings Words Points paragraph pieces → All (P (is_dictionary splitter)) pieces
  pieces-at P none marked paragraph pieces utf8 are = elim (cases_Bool (is_dictionary splitter)) [
    | inl is ↦
        subst (λ b. All (P b) pieces) (sym is)
        (All-weaker HasHyphenAtMost (P true) (λ w. ⊎_elim (none true w) (marked w)) pieces
        (hyphenated-hyphens settings Words (texts-at separator) Points (points_by-inner splitter) paragraph
        pieces utf8 are))
    | inr not ↦
        subst (λ b. All (P b) pieces) (sym not)
        (All-weaker HasNoPenalty (P false) (none false) pieces
        (pieces-no_penalty settings Words Points (texts-at separator) (points_by-cuts splitter)
        (points_by-hyphens splitter not) paragraph pieces utf8 are))
  ]

lines-begin : (algorithm : Algorithm) (widths : List ℕ) (pieces : List WordText)
    (division : List (List WordText)) → IsDividedBy algorithm sizes_of widths pieces division
    → Begins pieces (flat division)
lines-begin algorithm widths pieces division divided =
    ([], search (rules, arith, append-nil, IsDividedBy-whole))

abbrev By : PlainSeparator → PlainSplitter → Algorithm → Settings → Bool → List ℕ
    → List (List WordText) → Type 0
By separator splitter = DividesFrom (words_by separator) (points_by splitter)

pub lines-greedy : {algorithm : Algorithm} → algorithm ≡ ByFirstFit → (widths : List ℕ)
    (pieces : List WordText) (division : List (List WordText))
    → IsDividedBy algorithm sizes_of widths pieces division
    → IsDividedBy ByFirstFit sizes_of widths pieces division
lines-greedy first widths pieces division =
    subst (λ a. IsDividedBy a sizes_of widths pieces division) first

pub hyphens-at : (separator : PlainSeparator) (splitter : PlainSplitter) (algorithm : Algorithm)
    {settings : Settings} {text : List ℕ} {lines : List Line} → IsUtf8 text
    → (are : AreTextLines settings (By separator splitter algorithm settings) text lines)
    → All AddsHyphenAtMost (flat are.groups)
hyphens-at separator splitter algorithm {settings} {text} {lines} utf8 are =
    hyphens-alone settings (λ line words. words ≡ words_by separator line) (texts-at separator)
    (λ word points. points ≡ points_by splitter word) (points_by-inner splitter)
    (IsDividedBy algorithm sizes_of) (lines-begin algorithm) text lines utf8 are

pub AddOnlyHyphens-at : (separator : PlainSeparator) (splitter : PlainSplitter)
    (algorithm : Algorithm) {settings : Settings} {text : List ℕ} {lines : List Line} → IsUtf8 text
    → AreTextLines settings (By separator splitter algorithm settings) text lines
    → AddOnlyHyphens settings (By separator splitter algorithm settings) text lines
AddOnlyHyphens-at separator splitter algorithm utf8 are =
    record { are = are; hyphens = hyphens-at separator splitter algorithm utf8 are }

module _ (separator : PlainSeparator) {settings : Settings} {algorithm : Algorithm} {text : List ℕ}
    {lines : List Line} (utf8 : IsUtf8 text) where
  pub IsWrapped-at : (splitter : PlainSplitter)
      → AreTextLines settings (By separator splitter algorithm settings) text lines
      → IsWrapped settings (adds_as splitter) (Some algorithm)
      (By separator splitter algorithm settings) text lines
  IsWrapped-at splitter =
      IsWrapped-by settings (λ line words. words ≡ words_by separator line)
      (λ word points. points ≡ points_by splitter word) (IsDividedBy algorithm sizes_of)
      (texts-at separator) (points_by-cuts splitter) (lines-begin algorithm) (adds_as splitter)
      (Some algorithm) (λ adds. points_by-hyphens splitter (adds-no_hyphen splitter adds)) (λ _. IsDividedBy-whole sizes_of algorithm)
      (λ _. IsDividedBy-some sizes_of algorithm)
      (λ first. let is : algorithm ≡ ByFirstFit = cc in lines-greedy is) text lines utf8

  -- and by first fit
  module _ (first : algorithm ≡ ByFirstFit) where
    pub LinesKeepButHyphens-at : (splitter : PlainSplitter) → settings.break_words ≡ true
        → AreTextLines settings (By separator splitter algorithm settings) text lines
        → LinesKeepButHyphens settings (By separator splitter algorithm settings) text lines
    LinesKeepButHyphens-at splitter breaks are =
        LinesKeepButHyphens-by settings (λ line words. words ≡ words_by separator line)
        (texts-at separator) (λ word points. points ≡ points_by splitter word) (points_by-inner splitter)
        (IsDividedBy algorithm sizes_of) (lines-begin algorithm) (lines-greedy first) breaks text lines
        utf8 are

    module _ (splitter : PlainSplitter) (asked : settings.room_for_hyphens ≡ is_dictionary splitter)
        (room : is_dictionary splitter ≡ true → 0 < later_width settings) where
      pub LinesKeepToWidth-at : settings.even_paragraphs ≡ true → settings.break_words ≡ true
          → AreTextLines settings (By separator splitter algorithm settings) text lines
          → LinesKeepToWidth settings (By separator splitter algorithm settings) text lines
      LinesKeepToWidth-at even breaks =
          LinesKeepToWidth-by settings (λ line words. words ≡ words_by separator line)
          (λ word points. points ≡ points_by splitter word) (IsDividedBy algorithm sizes_of)
          (texts-at separator) (points_by-cuts splitter) (lines-begin algorithm)
          (close-at separator settings splitter asked room breaks) (lines-greedy first) text lines utf8
          even breaks

      pub ArePrintedWithin-at : CanKeepToWidth settings text
          → AreTextLines settings (By separator splitter algorithm settings) text lines
          → ArePrintedWithin settings (By separator splitter algorithm settings) text lines
      ArePrintedWithin-at =
          ArePrintedWithin-by settings (λ line words. words ≡ words_by separator line)
          (λ word points. points ≡ points_by splitter word) (IsDividedBy algorithm sizes_of)
          (texts-at separator) (points_by-cuts splitter)
          (close-at separator settings splitter asked room)
          (pieces-at separator settings splitter (λ b. PrintsPenalty)
          (λ b w none. rw none text_width-nil) hyphen-prints) (lines-greedy first) text lines utf8

-- the lines are the text
pub AreTheText-at : (separator : PlainSeparator) (splitter : PlainSplitter) (algorithm : Algorithm)
    {settings : Settings} {text : List ℕ} {lines : List Line} → IsUtf8 text
    → AreTextLines settings (By separator splitter algorithm settings) text lines
    → AreTheText settings text lines
AreTheText-at separator splitter algorithm utf8 are =
    let wrapped = IsWrapped-at separator utf8 splitter are in record {
      groups = wrapped.are.groups;
      given = wrapped.are.given;
      covered = wrapped.tile (λ none. cc);
      hyphens = hyphens-at separator splitter algorithm utf8 wrapped.are;
      blanks = wrapped.loses.blanks;
    }
