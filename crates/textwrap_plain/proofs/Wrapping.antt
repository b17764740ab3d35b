-- What a hyphenated text promises.
use Rattle.textwrap.proofs.Common.{text_width-nil}
use Rattle.textwrap_hyphens.proofs.SplitPieces.{HasHyphenAtMost, held-cuts, held-inner}
use Rattle.textwrap_hyphens.specs.{Hyphenation.Hyphenation, Table.held}
use Rattle.textwrap_hyphens.specs.declared.table.PatternTable.{PatternTable}
use Rattle.textwrap_layout.proofs.Common.{IsWrapped, front_pieces, LinesKeepToWidth, fitting_pieces}
use Rattle.textwrap_layout.proofs.{Common.words_unique, Paragraph.Pieces.division-as}
use Rattle.textwrap_layout.proofs.Paragraph.Widths.{PiecesClose}
use Rattle.textwrap_layout.specs.declared.options.Options.{Options}
use Rattle.textwrap_lines.proofs.Common.{MatchBool, closed_width, AreParagraphParts, AreTextLines}
use Rattle.textwrap_lines.proofs.Common.{IsDividedInto, Line, LineParts, Settings, is_whole}
use Rattle.textwrap_lines.proofs.Common.{ArePrintedWithin, CanKeepToWidth, later_width, widths_of}
use Rattle.textwrap_lines.proofs.Common.{laid_out-cases, paragraphs_of, paragraphs_of-utf8, All}
use Rattle.textwrap_lines.proofs.Common.{All-cons, All-nil, All-weaker, Bool, IsUtf8, List, [], ap}
use Rattle.textwrap_lines.proofs.Common.{◌<◌, cond, false, inl, map, refl, subst, sym, true, ℕ, ◌++◌}
use Rattle.textwrap_lines.proofs.Common.{◌↔◌, ◌∙◌, ◌∷◌, ◌≡◌, ◌≢◌, ◌≤◌, all-left, flat, Algorithm}
use Rattle.textwrap_lines.proofs.Common.{ByFirstFit, IsDividedBy, MayDivide, MaySeparate, WordText}
use Rattle.textwrap_lines.proofs.Common.{algorithm_view, sizes_of, word_of, words_of, AreTexts}
use Rattle.textwrap_lines.proofs.Paragraph.KeepsTo.{parts_from-pieces, whole_line-within}
use Rattle.textwrap_lines.proofs.Text.Groups.{groups-all, groups-map}
use Rattle.textwrap_lines.proofs.Text.Printed.{ArePrintedWithin-by, PrintsPenalty}
use Rattle.textwrap_lines.proofs.Text.Promises.{IsWrapped-by, LinesKeepToWidth-by}
use Rattle.textwrap_plain.proofs.{Passing.{greedy_passes, parts_from-hyphens}, Pieces.hyphen-prints}
use Rattle.textwrap_plain.proofs.Pieces.{hyphenated-close, hyphenated-hyphens, hyphenated-tight}
use Rattle.textwrap_plain.specs.Hyphenated.{split_points, AddOnlyHyphens, AddsHyphenAtMost}
use Rattle.textwrap_plain.specs.Hyphenated.{ArePointsBy, AreTheText, DividesAtPoints}
use Rattle.textwrap_plain.specs.Hyphenated.{DividesHyphenatedUnder, HasPartsBeside, KeepButHyphens}
use Rattle.textwrap_plain.specs.Hyphenated.{LinesKeepButHyphens, OnlyHyphensPass}
use Rattle.textwrap_plain.specs.Options.{DividesFrom, DividesPlainly, plain_algorithm}
use Rattle.textwrap_plain.specs.declared.options.PlainOptions.{PlainOptions}
use Rattle.textwrap_plain.specs.declared.options.PlainSeparator.TheVariants.{AtBlanks}
use Rattle.textwrap_plain.specs.declared.options.PlainSplitter.TheVariants.{Dictionary}
use Rattle.textwrap_text.proofs.Common.{None, Some, ⊎_elim}
use Rattle.textwrap_words.proofs.{Common.AreInnerCuts, Common.Begins, Word.Divisions.MayDivide-begins}
use Rattle.textwrap_words.proofs.Word.Divisions.{MayDivide-greedy, MayDivide-some, MayDivide-whole}
use Rattle.textwrap_words.proofs.Word.Parts.{MaySeparate-texts}
use Rattle.textwrap_words.specs.declared.wrap_algorithms.WrapAlgorithm.TheVariants.{FirstFit}

-- ---- what the lines keep to

module _ (settings : Settings) (Words : List ℕ → List WordText → Type 0)
    (texts : (line : List ℕ) (words : List WordText) → IsUtf8 line → Words line words
    → AreTexts line words) (Points : List ℕ → List ℕ → Type 0)
    (inner : (text points : List ℕ) → IsUtf8 text → Points text points → AreInnerCuts text points)
    (Lines : List ℕ → List WordText → List (List WordText) → Type 0)
    (begins : (widths : List ℕ) (pieces : List WordText) (division : List (List WordText))
    → Lines widths pieces division → Begins pieces (flat division)) where
  abbrev Divides : Bool → List ℕ → List (List WordText) → Type 0
  Divides = IsDividedInto settings Words Points Lines

  abbrev AreParts : Bool → List ℕ → List LineParts → Type 0
  AreParts = AreParagraphParts settings Divides

  paragraph-hyphens : (is_later : Bool) (paragraph : List ℕ) (parts : List LineParts)
      → IsUtf8 paragraph → AreParts is_later paragraph parts → All AddsHyphenAtMost parts
  paragraph-hyphens is_later paragraph parts utf8 (division, laid_out, is) =
      subst (All AddsHyphenAtMost) (sym is) (parts_from-hyphens settings is_later division
      (laid_out-cases (λ d. All HasHyphenAtMost (flat d)) paragraph _ division
      (All-cons HasHyphenAtMost (word_of paragraph) [] (inl refl) (All-nil HasHyphenAtMost))
      (λ (pieces, are, divided).
      let (rest, whole) = begins (widths_of settings is_later) pieces division divided in
      all-left HasHyphenAtMost (flat division) rest (subst (All HasHyphenAtMost) (sym whole)
      (hyphenated-hyphens settings Words texts Points inner paragraph pieces utf8 are)))
      (is_whole settings is_later paragraph) laid_out))

  pub hyphens-alone : (text : List ℕ) (lines : List Line) → IsUtf8 text
      → (are : AreTextLines settings Divides text lines) → All AddsHyphenAtMost (flat are.groups)
  hyphens-alone text lines utf8 are =
      let paragraphs = paragraphs_of settings.line_ending text in
      groups-all AddsHyphenAtMost false paragraphs are.groups
      (groups-map IsUtf8 AreParts (λ is_later paragraph parts. All AddsHyphenAtMost parts)
      paragraph-hyphens false paragraphs are.groups
      (paragraphs_of-utf8 settings.line_ending text utf8) are.defined)

  pub AddOnlyHyphens-by : (text : List ℕ) (lines : List Line) → IsUtf8 text
      → AreTextLines settings Divides text lines → AddOnlyHyphens settings Divides text lines
  AddOnlyHyphens-by text lines utf8 are =
      record { are = are; hyphens = hyphens-alone text lines utf8 are }

  -- by first fit, where words are broken
  module _ (greedy : (widths : List ℕ) (pieces : List WordText) (division : List (List WordText))
      → Lines widths pieces division → IsDividedBy ByFirstFit sizes_of widths pieces division)
      (breaks : settings.break_words ≡ true) where
    division-passes : (is_later : Bool) (paragraph : List ℕ) (division : List (List WordText))
        → IsUtf8 paragraph → Divides is_later paragraph division
        → OnlyHyphensPass (widths_of settings is_later) 0 division
    division-passes is_later paragraph division utf8 (pieces, are, divided) =
        let broken = fitting_pieces settings are.1 in
        let same : pieces ≡ front_pieces settings ++ broken = are.4
        ∙ ap (λ b. cond b (front_pieces settings ++ broken) are.1) breaks in
        greedy_passes settings is_later broken division
        (rw same at (greedy (widths_of settings is_later) pieces division divided))
        (rw same at (hyphenated-tight settings Words texts Points inner paragraph pieces utf8 breaks are))

    paragraph-keeps : (is_later : Bool) (paragraph : List ℕ) (parts : List LineParts)
        → IsUtf8 paragraph → AreParts is_later paragraph parts
        → KeepButHyphens settings is_later paragraph parts
    paragraph-keeps is_later paragraph parts utf8 (division, laid_out, is) =
        let Within : Bool → List (List WordText) → Type 0 =
        λ whole lines. MatchBool whole (All (λ line. closed_width sizes_of line ≤ settings.width)
        lines) (OnlyHyphensPass (widths_of settings is_later) 0 lines) in
        let by = elim (is_whole settings is_later paragraph)
        as (λ b. is_whole settings is_later paragraph ≡ b
        → MatchBool b (division ≡ (word_of paragraph ∷ []) ∷ []) (Divides is_later paragraph division)
        → Within b division) [
          | true ↦ λ whole one. rw one
              (All-cons (λ line. closed_width sizes_of line ≤ settings.width)
              (word_of paragraph ∷ []) [] (whole_line-within settings is_later paragraph utf8 whole)
              (All-nil (λ line. closed_width sizes_of line ≤ settings.width)))
          | false ↦ λ longer divided. division-passes is_later paragraph division utf8 divided
        ] in
        subst (Within (is_whole settings is_later paragraph))
        (sym (ap (map (λ p. p.pieces)) is ∙ parts_from-pieces settings is_later division))
        (by refl laid_out)

    pub LinesKeepButHyphens-by : (text : List ℕ) (lines : List Line) → IsUtf8 text
        → AreTextLines settings Divides text lines
        → LinesKeepButHyphens settings Divides text lines
    LinesKeepButHyphens-by text lines utf8 are =
        let paragraphs = paragraphs_of settings.line_ending text in
        record {
          are = are;
          keep = groups-map IsUtf8 AreParts (KeepButHyphens settings) paragraph-keeps false
              paragraphs are.groups (paragraphs_of-utf8 settings.line_ending text utf8) are.defined;
        }

-- ---- by options that may hold functions

module _ {E C : Type 0} {e : _} {c : _} (options : Options E C e c) (patterns : PatternTable)
    (settings : Settings) (text : List ℕ) (lines : List Line) (utf8 : IsUtf8 text) where
  abbrev Words : List ℕ → List WordText → Type 0
  Words = MaySeparate options.word_separator

  abbrev By : Bool → List ℕ → List (List WordText) → Type 0
  By = DividesHyphenatedUnder options (held patterns) settings

  begins : (widths : List ℕ) (pieces : List WordText) (division : List (List WordText))
      → MayDivide options.wrap_algorithm (λ w. w) widths pieces division → Begins pieces (flat division)
  begins = MayDivide-begins options.wrap_algorithm (λ w. w)

  greedy : algorithm_view options.wrap_algorithm ≡ Some ByFirstFit → (widths : List ℕ)
      (pieces : List WordText) (division : List (List WordText))
      → MayDivide options.wrap_algorithm (λ w. w) widths pieces division
      → IsDividedBy ByFirstFit sizes_of widths pieces division
  greedy first widths pieces division =
      MayDivide-greedy options.wrap_algorithm (λ w. w) widths pieces division first

  module _ (are : AreTextLines settings By text lines) where
    pub IsWrapped-hyphenated : IsWrapped settings None (algorithm_view options.wrap_algorithm) By text
        lines
    IsWrapped-hyphenated =
        let algorithm = options.wrap_algorithm in
        IsWrapped-by settings Words (ArePointsBy (held patterns)) (MayDivide algorithm (λ w. w))
        (MaySeparate-texts options.word_separator) (held-cuts patterns) begins None
        (algorithm_view algorithm) (λ built_in. absurd (built_in refl))
        (λ built_in widths pieces division. MayDivide-whole algorithm (λ w. w) widths pieces division
        built_in)
        (λ built_in widths pieces division. MayDivide-some algorithm (λ w. w) widths pieces division
        built_in)
        greedy text lines utf8 are

    pub AddOnlyHyphens-hyphenated : AddOnlyHyphens settings By text lines
    AddOnlyHyphens-hyphenated =
        AddOnlyHyphens-by settings Words (MaySeparate-texts options.word_separator)
        (ArePointsBy (held patterns)) (held-inner patterns)
        (MayDivide options.wrap_algorithm (λ w. w)) begins text lines utf8 are

    pub AreTheText-hyphenated : algorithm_view options.wrap_algorithm ≢ None
        → AreTheText settings text lines
    AreTheText-hyphenated built_in =
        let wrapped = IsWrapped-hyphenated in record {
          groups = wrapped.are.groups;
          given = wrapped.are.given;
          covered = wrapped.tile built_in;
          hyphens = hyphens-alone settings Words (MaySeparate-texts options.word_separator)
              (ArePointsBy (held patterns)) (held-inner patterns)
              (MayDivide options.wrap_algorithm (λ w. w)) begins text lines utf8 wrapped.are;
          blanks = wrapped.loses.blanks;
        }

    module _ (first : options.wrap_algorithm ≡ FirstFit) where
      pub LinesKeepButHyphens-hyphenated : settings.break_words ≡ true
          → LinesKeepButHyphens settings By text lines
      LinesKeepButHyphens-hyphenated breaks =
          LinesKeepButHyphens-by settings Words (MaySeparate-texts options.word_separator)
          (ArePointsBy (held patterns)) (held-inner patterns)
          (MayDivide options.wrap_algorithm (λ w. w)) begins (greedy (ap algorithm_view first)) breaks
          text lines utf8 are

      -- where hyphens have room
      module _ (asked : settings.room_for_hyphens ≡ true) (room : 0 < later_width settings) where
        close : settings.break_words ≡ true → PiecesClose settings Words (ArePointsBy (held patterns))
        close =
            hyphenated-close settings Words (MaySeparate-texts options.word_separator)
            (ArePointsBy (held patterns)) (held-inner patterns) asked
            room

        pub LinesKeepToWidth-hyphenated : settings.even_paragraphs ≡ true
            → settings.break_words ≡ true → LinesKeepToWidth settings By text lines
        LinesKeepToWidth-hyphenated even breaks =
            LinesKeepToWidth-by settings Words (ArePointsBy (held patterns))
            (MayDivide options.wrap_algorithm (λ w. w)) (MaySeparate-texts options.word_separator)
            (held-cuts patterns) begins (close breaks) (greedy (ap algorithm_view first)) text lines utf8
            even breaks are

        pub ArePrintedWithin-hyphenated : CanKeepToWidth settings text
            → ArePrintedWithin settings By text lines
        ArePrintedWithin-hyphenated can =
            ArePrintedWithin-by settings Words (ArePointsBy (held patterns))
            (MayDivide options.wrap_algorithm (λ w. w)) (MaySeparate-texts options.word_separator)
            (held-cuts patterns) close
            (λ paragraph pieces utf8 pieces_are. All-weaker HasHyphenAtMost PrintsPenalty
            (λ w. ⊎_elim (λ none. rw none text_width-nil) (hyphen-prints w)) pieces
            (hyphenated-hyphens settings Words (MaySeparate-texts options.word_separator)
            (ArePointsBy (held patterns)) (held-inner patterns)
            paragraph pieces utf8 pieces_are)) (greedy (ap algorithm_view first)) text lines utf8 can are

-- ---- where words stand between blanks and the algorithm is built in

pub divides-under : {E C : Type 0} {e : _} {c : _} (options : Options E C e c) (h : Hyphenation)
    (algorithm : Algorithm) → HasPartsBeside options algorithm → (s : Settings)
    → DividesHyphenatedUnder options h s ≡ DividesAtPoints h algorithm s
divides-under options h algorithm parts s = rw (
  parts.separator,
  division-as options.wrap_algorithm algorithm parts.algorithm_is,
) refl

pub at-points : {E C : Type 0} {e : _} {c : _} (options : Options E C e c) (h : Hyphenation)
    (algorithm : Algorithm) → HasPartsBeside options algorithm → (settings : Settings) (is_later : Bool)
    (paragraph : List ℕ) (division : List (List WordText))
    → DividesHyphenatedUnder options h settings is_later paragraph division
    ↔ DividesAtPoints h algorithm settings is_later paragraph division
at-points options h algorithm parts settings is_later paragraph division =
    subst (λ Divides. Divides is_later paragraph division
    ↔ DividesAtPoints h algorithm settings is_later paragraph division)
    (sym (divides-under options h algorithm parts settings)) (λ divided. divided, λ divided. divided)

-- by options without functions
module _ (o : PlainOptions) (table : PatternTable) (blanks : o.word_separator ≡ AtBlanks)
    (dictionary : o.word_splitter ≡ Dictionary table) (settings : Settings) (is_later : Bool)
    (paragraph : List ℕ) (division : List (List WordText)) where
  named : DividesPlainly o settings is_later paragraph division
      ≡ DividesFrom words_of (split_points (held table)) (plain_algorithm o) settings is_later
      paragraph division
  named = rw (blanks, dictionary) refl

  pub plain-points : DividesPlainly o settings is_later paragraph division
      ↔ DividesAtPoints (held table) (plain_algorithm o) settings is_later paragraph division
  plain-points = (
    λ given. let (pieces, (words, split, words_are, split_are, is), divided) = rw named at given in (
      pieces,
      (words, split, (words_unique paragraph words).1 words_are, split_are, is),
      divided,
    ),
    λ (pieces, (words, split, words_are, split_are, is), divided). rw named (
      pieces,
      (words, split, (words_unique paragraph words).0 words_are, split_are, is),
      divided,
    ),
  )
