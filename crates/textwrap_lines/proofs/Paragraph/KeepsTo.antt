-- What the lines of a paragraph keep to, and the shortcut for a paragraph that is one line.
use Rattle.textwrap_lines.proofs.Common.{AreParagraphParts, AreDividedParts, algorithm_view, ByFirstFit}
use Rattle.textwrap_lines.proofs.Common.{ends_in_hyphen, laid_out-cases, IsDividedInto, AreIndented}
use Rattle.textwrap_lines.proofs.Common.{splitter_view, tiled-word_of, HasNoPenalty, KeepToWidths}
use Rattle.textwrap_lines.proofs.Common.{closed_width, KeepsToWidth, IsDividedBy, MaySeparate, Bool}
use Rattle.textwrap_lines.proofs.Common.{first_width, later_width, All-weaker, length-map, All-cons}
use Rattle.textwrap_lines.proofs.Common.{parts_from, IsMeasured, Algorithm, DividesAs, LineParts, ℕ}
use Rattle.textwrap_lines.proofs.Common.{all-right, and_parts, cond_both, MatchBool, MayDivide, All}
use Rattle.textwrap_lines.proofs.Common.{indent_of, line_from, pieces_of, widths_of, AreTexts, Line}
use Rattle.textwrap_lines.proofs.Common.{all-left, is_whole, MaySplit, Settings, Splitter, WordText}
use Rattle.textwrap_lines.proofs.Common.{ltb-true, parts_of, sizes_of, All-nil, AreCuts, word_of}
use Rattle.textwrap_lines.proofs.Common.{IsUtf8, length, nat_lt, Option, arith, false, rules, subst}
use Rattle.textwrap_lines.proofs.Common.{flat, List, None, refl, Some, take, true, ◌==◌, inl, map}
use Rattle.textwrap_lines.proofs.Common.{sym, ◌+◌, ◌<◌, ◌∙◌, ◌∷◌, ◌≡◌, ◌≢◌, ◌≤◌, [], ap}
use Rattle.textwrap_layout.proofs.Common.{IsOneCharacter, OnlyCharactersPass, width_after}
use Rattle.textwrap_text.proofs.Lists.Parts.{Begins}
use Rattle.textwrap_words.proofs.Word.Words.{closed_width-narrow, text_width-nil}
use Rattle.textwrap_words.proofs.Word.Texts.{without_final_blanks-utf8}
use Rattle.textwrap_layout.specs.Paragraph.{indent_before}
use Rattle.textwrap_layout.proofs.Paragraph.LeftOff.{closed-pieces_of, last_piece-no_penalty}
use Rattle.textwrap_layout.proofs.Paragraph.LeftOff.{narrow_words, whole_unindented, word_of-blanks}
use Rattle.textwrap_layout.proofs.Paragraph.LeftOff.{same_line}
use Rattle.textwrap_layout.proofs.Paragraph.Widths.{PiecesClose, later_is, long_lines}
use Rattle.textwrap_layout.proofs.Paragraph.Pieces.{ArePieces-computed, pieces_of-no_penalty}
use Rattle.textwrap_layout.proofs.Paragraph.Pieces.{divided-as, pieces-no_penalty}
use Rattle.textwrap_base.proofs.Cost.Chosen.{IsDividedBy-one_line}
use Rattle.textwrap_text.proofs.Common.{Err, IsErrAnd, Ok, Result}
use Rattle.std.specs.Prelude.{alloc_error}
use Rattle.textwrap_base.specs.Errors.{OnlyMemoryRunsOut}
use Rattle.textwrap_base.specs.declared.errors.WrapError.{WrapError}
use Rattle.textwrap_base.specs.declared.errors.WrapError.TheVariants.{Memory}
use Rattle.textwrap_words.specs.declared.word_separators.WordSeparator as separators
use Rattle.textwrap_words.specs.declared.word_splitters.WordSplitter as splitters
use Rattle.textwrap_words.specs.declared.wrap_algorithms.WrapAlgorithm as algorithms

-- ---- what the lines of a division keep to: indents, pieces, hyphens

parts_of-indented : (settings : Settings) (is_later : Bool) (line : List WordText)
    → (parts_of settings is_later line).indent
    ≡ indent_before settings is_later (parts_of settings is_later line).pieces
parts_of-indented settings is_later [] = refl
parts_of-indented settings is_later (w ∷ ws) = refl

pub parts_from-indented : (settings : Settings) (is_later : Bool) (division : List (List WordText))
    → AreIndented settings is_later (parts_from settings is_later division)
parts_from-indented settings is_later [] = tt
parts_from-indented settings is_later (line ∷ lines) =
    (parts_of-indented settings is_later line, parts_from-indented settings true lines)

parts_of-pieces : (settings : Settings) (is_later : Bool) (line : List WordText)
    → (parts_of settings is_later line).pieces ≡ line
parts_of-pieces settings is_later [] = refl
parts_of-pieces settings is_later (w ∷ ws) = refl

pub parts_from-pieces : (settings : Settings) (is_later : Bool) (division : List (List WordText))
    → map (λ p. p.pieces) (parts_from settings is_later division) ≡ division
parts_from-pieces settings is_later [] = refl
parts_from-pieces settings is_later (line ∷ lines) =
    simp (parts_of-pieces, parts_from-pieces settings true lines)

abbrev pub HasNoHyphen : LineParts → Type 0
HasNoHyphen p = p.penalty ≡ []

parts_of-no_hyphen : (settings : Settings) (is_later : Bool) (line : List WordText)
    → All HasNoPenalty line → HasNoHyphen (parts_of settings is_later line)
parts_of-no_hyphen settings is_later [] all = refl
parts_of-no_hyphen settings is_later (w ∷ ws) all = last_piece-no_penalty w ws all

pub parts_from-no_hyphen : (settings : Settings) (is_later : Bool) (division : List (List WordText))
    → All HasNoPenalty (flat division) → All HasNoHyphen (parts_from settings is_later division)
parts_from-no_hyphen settings is_later [] all = All-nil HasNoHyphen
parts_from-no_hyphen settings is_later (line ∷ lines) all =
    All-cons HasNoHyphen (parts_of settings is_later line) (parts_from settings true lines)
    (parts_of-no_hyphen settings is_later line (all-left HasNoPenalty line (flat lines) all))
    (parts_from-no_hyphen settings true lines (all-right HasNoPenalty line (flat lines) all))

pub whole_line-within : (settings : Settings) (is_later : Bool) (paragraph : List ℕ)
    → IsUtf8 paragraph → is_whole settings is_later paragraph ≡ true
    → closed_width sizes_of (word_of paragraph ∷ []) ≤ settings.width
whole_line-within settings is_later paragraph utf8 whole =
    let tests = and_parts (length (indent_of settings is_later) == 0)
    (nat_lt (length paragraph) settings.width) whole in
    let line = word_of paragraph ∷ [] in
    let measured : All IsMeasured line =
    search (rules, All-cons, without_final_blanks-utf8, word_of-blanks, All-nil) in
    let none : All HasNoPenalty line =
    All-cons HasNoPenalty (word_of paragraph) [] refl (All-nil HasNoPenalty) in
    let within : closed_width sizes_of line ≤ length paragraph =
    rw (tiled-word_of paragraph) at (closed_width-narrow line (narrow_words line measured none)) in
    omega (arith, within, ltb-true (length paragraph) settings.width tests.1)

-- ---- lemmas on lines that keep to the width, their indents with them: those of a paragraph
-- whose first line is divided for the width that its own indent leaves

module _ (settings : Settings) where
  abbrev pub Keeps : LineParts → Type 0
  Keeps = KeepsToWidth settings.width

  abbrev pub own_width : Bool → ℕ
  own_width is_later = width_after settings (indent_of settings is_later)

  -- a line that is divided for the width that its own indent leaves
  line-even : (is_later : Bool) (line : List WordText)
      → (own_width is_later < closed_width sizes_of line → IsOneCharacter line)
      → Keeps (parts_of settings is_later line)
  line-even is_later [] one = inl (omega (arith, text_width-nil))
  line-even is_later (w ∷ ws) one = grind arith

  lines-even : (first number : ℕ) (lines : List (List WordText)) → 1 ≤ number
      → OnlyCharactersPass (first ∷ later_width settings ∷ []) number lines
      → All Keeps (parts_from settings true lines)
  lines-even first number [] later only = All-nil Keeps
  lines-even first number (line ∷ lines) later only =
      let same = later_is first (later_width settings) number later in
      All-cons Keeps (parts_of settings true line) (parts_from settings true lines)
      (line-even true line (λ past. only.0 (omega (arith, same, past))))
      (lines-even first (number + 1) lines (omega arith) only.1)

  -- where paragraphs are even, each line has the width that its indent leaves
  pub first_width-own : settings.even_paragraphs ≡ true → (is_later : Bool)
      → first_width settings is_later ≡ own_width is_later
  first_width-own even true = search (rules, arith)
  first_width-own even false = search (rules, arith)

  -- the lines of a division
  pub division-even : (is_later : Bool) → first_width settings is_later ≡ own_width is_later
      → (division : List (List WordText))
      → OnlyCharactersPass (widths_of settings is_later) 0 division
      → All Keeps (parts_from settings is_later division)
  division-even is_later own [] only = All-nil Keeps
  division-even is_later own (line ∷ lines) only = grind (arith, All-cons, line-even, lines-even)

-- ---- what the lines of a paragraph keep to

-- what holds of the paragraph as one line, and of a division of it, holds of its lines
laid_out-by : (P : List (List WordText) → Type 0) (paragraph : List ℕ) (Divided : Type 0)
    (division : List (List WordText)) (whole : Bool)
    → (whole ≡ true → P ((word_of paragraph ∷ []) ∷ [])) → (whole ≡ false → Divided → P division)
    → MatchBool whole (division ≡ (word_of paragraph ∷ []) ∷ []) Divided → P division
laid_out-by P paragraph Divided division true one divided is = subst P (sym is) (one refl)
laid_out-by P paragraph Divided division false one divided is = divided refl is

module _ (settings : Settings) (Words : List ℕ → List WordText → Type 0)
    (Points : List ℕ → List ℕ → Type 0)
    (Lines : List ℕ → List WordText → List (List WordText) → Type 0) where
  abbrev pub Divides : Bool → List ℕ → List (List WordText) → Type 0
  Divides = IsDividedInto settings Words Points Lines

  abbrev pub AreParts : Bool → List ℕ → List LineParts → Type 0
  AreParts = AreParagraphParts settings Divides

  pub paragraph-some : ((widths : List ℕ) (pieces : List WordText) (division : List (List WordText))
      → Lines widths pieces division → 0 < length division)
      → (is_later : Bool) (paragraph : List ℕ) (parts : List LineParts)
      → IsUtf8 paragraph → AreParts is_later paragraph parts → 0 < length parts
  paragraph-some divided-some is_later paragraph parts utf8 (division, laid_out, is) =
      let lines : length parts ≡ length division =
      cc (length-map parts (λ p. p.pieces), is, parts_from-pieces settings is_later division) in
      search (rules, laid_out-cases)

  pub paragraph-indented : (is_later : Bool) (paragraph : List ℕ) (parts : List LineParts)
      → IsUtf8 paragraph → AreParts is_later paragraph parts → AreIndented settings is_later parts
  paragraph-indented is_later paragraph parts utf8 (division, laid_out, is) =
      search (rules, parts_from-indented)

  module _ (texts : (line : List ℕ) (words : List WordText) → IsUtf8 line → Words line words
      → AreTexts line words)
      (cuts : (text points : List ℕ) → IsUtf8 text → Points text points → AreCuts text points)
      (begins : (widths : List ℕ) (pieces : List WordText) (division : List (List WordText))
      → Lines widths pieces division → Begins pieces (flat division)) where
    pub paragraph-no_hyphen : ((text points : List ℕ) → Points text points
        → All (λ p. ends_in_hyphen (take p text) ≡ true) points)
        → (is_later : Bool) (paragraph : List ℕ) (parts : List LineParts)
        → IsUtf8 paragraph → AreParts is_later paragraph parts → All HasNoHyphen parts
    paragraph-no_hyphen hyphens is_later paragraph parts utf8 (division, laid_out, is) =
        subst (All HasNoHyphen) (sym is) (parts_from-no_hyphen settings is_later division
        (laid_out-cases (λ d. All HasNoPenalty (flat d)) paragraph _ division
        (All-cons HasNoPenalty (word_of paragraph) [] refl (All-nil HasNoPenalty))
        (λ (pieces, are, divided).
        let (rest, whole) = begins (widths_of settings is_later) pieces division divided in
        all-left HasNoPenalty (flat division) rest (subst (All HasNoPenalty) (sym whole)
        (pieces-no_penalty settings Words Points texts cuts hyphens paragraph pieces utf8 are)))
        (is_whole settings is_later paragraph) laid_out))

  -- by first fit, where words that are too wide are broken
  module _ (close : PiecesClose settings Words Points)
      (greedy : (widths : List ℕ) (pieces : List WordText) (division : List (List WordText))
      → Lines widths pieces division → IsDividedBy ByFirstFit sizes_of widths pieces division)
      (breaks : settings.break_words ≡ true) where
    characters-pass : (is_later : Bool) (paragraph : List ℕ) (division : List (List WordText))
        → IsUtf8 paragraph → Divides is_later paragraph division
        → OnlyCharactersPass (widths_of settings is_later) 0 division
    characters-pass is_later paragraph division utf8 (pieces, are, divided) =
        long_lines settings Words Points breaks close is_later paragraph division utf8
        (pieces, are, greedy (widths_of settings is_later) pieces division divided)

    pub paragraph-keeps : (is_later : Bool) (paragraph : List ℕ) (parts : List LineParts)
        → IsUtf8 paragraph → AreParts is_later paragraph parts
        → KeepToWidths settings is_later paragraph parts
    paragraph-keeps is_later paragraph parts utf8 (division, laid_out, is) =
        let whole = is_whole settings is_later paragraph in
        let Within : List (List WordText) → Type 0 =
        λ lines. MatchBool whole (All (λ line. closed_width sizes_of line ≤ settings.width) lines)
        (OnlyCharactersPass (widths_of settings is_later) 0 lines) in
        subst Within
        (sym (ap (map (λ p. p.pieces)) is ∙ parts_from-pieces settings is_later division))
        (laid_out-by Within paragraph _ division whole
        (λ one. rw one (search (rules, arith, All-cons, whole_line-within, All-nil)))
        (λ longer divided. rw longer (characters-pass is_later paragraph division utf8 divided))
        laid_out)

    -- where later paragraphs are even
    pub paragraph-even : (is_later : Bool)
        → first_width settings is_later ≡ own_width settings is_later
        → (paragraph : List ℕ) (parts : List LineParts) → IsUtf8 paragraph
        → AreParts is_later paragraph parts → All (KeepsToWidth settings.width) parts
    paragraph-even is_later own paragraph parts utf8 (division, laid_out, is) =
        let Keep : List (List WordText) → Type 0 =
        λ lines. All (KeepsToWidth settings.width) (parts_from settings is_later lines) in
        subst (All (KeepsToWidth settings.width)) (sym is)
        (laid_out-by Keep paragraph _ division (is_whole settings is_later paragraph)
        (λ one. search (
          rules,
          arith,
          whole_unindented,
          text_width-nil,
          All-cons,
          All-nil,
          whole_line-within,
        ))
        (λ longer divided. division-even settings is_later own division
        (characters-pass is_later paragraph division utf8 divided)) laid_out)

-- ---- the shortcut

-- without indents, a paragraph's first line has the whole width
first_width-unindented : (settings : Settings) (is_later : Bool) → settings.initial_indent ≡ []
    → indent_of settings is_later ≡ [] → settings.width ≤ first_width settings is_later
first_width-unindented settings is_later unindented none = grind (arith, cond_both, text_width-nil)

module _ (settings : Settings) (algorithm : Algorithm) (splitter : Splitter) where
  -- the lines of a paragraph are those of a division of its pieces
  abbrev pub HasDividedLines : Bool → List ℕ → List Line → Type 0
  HasDividedLines is_later paragraph lines = (parts : List LineParts) × AreDividedParts settings
      (DividesAs splitter algorithm settings) is_later
      paragraph parts × (map line_from parts ≡ lines)

  whole-divided : (is_later : Bool) (paragraph : List ℕ) → IsUtf8 paragraph
      → settings.initial_indent ≡ [] → is_whole settings is_later paragraph ≡ true
      → HasDividedLines is_later paragraph
      (line_from (parts_of settings is_later (word_of paragraph ∷ [])) ∷ [])
  whole-divided is_later paragraph utf8 unindented whole =
      let pieces = pieces_of settings splitter paragraph in
      let tests = and_parts (length (indent_of settings is_later) == 0)
      (nat_lt (length paragraph) settings.width) whole in
      let without = whole_unindented settings is_later paragraph whole in
      let shorter = ltb-true (length paragraph) settings.width tests.1 in
      let wide = first_width-unindented settings is_later unindented without in
      let room : closed_width sizes_of pieces ≤ first_width settings is_later =
      search (rules, closed-pieces_of) in
      let none = All-weaker HasNoPenalty (λ w. length w.penalty ≡ 0)
      (λ w none. ap length none) pieces
      (pieces_of-no_penalty settings splitter paragraph utf8) in (
        parts_of settings is_later pieces ∷ [],
        (
          pieces ∷ [],
          (
            pieces,
            ArePieces-computed settings splitter paragraph,
            IsDividedBy-one_line algorithm sizes_of (widths_of settings is_later) pieces none room,
          ),
          refl,
        ),
        rw same_line,
      )

  pub paragraph-divided : (is_later : Bool) (paragraph : List ℕ) (parts : List LineParts)
      → IsUtf8 paragraph → settings.initial_indent ≡ []
      → AreParagraphParts settings (DividesAs splitter algorithm settings) is_later paragraph parts
      → HasDividedLines is_later paragraph (map line_from parts)
  paragraph-divided is_later paragraph parts utf8 unindented (division, laid_out, is) =
      let Has : List (List WordText) → Type 0 =
      λ lines. HasDividedLines is_later paragraph
      (map line_from (parts_from settings is_later lines)) in
      subst (λ ps. HasDividedLines is_later paragraph (map line_from ps)) (sym is)
      (laid_out-by Has paragraph _ division (is_whole settings is_later paragraph)
      (λ one. whole-divided is_later paragraph utf8 unindented one)
      (λ longer divided. (parts_from settings is_later division, (division, divided, refl), refl))
      laid_out)

-- the lines of a paragraph are those of a division too, where there are no indents
abbrev IsDividedToo : Settings → (Bool → List ℕ → List (List WordText) → Type 0) → Type 0
IsDividedToo settings Divides = (is_later : Bool) (paragraph : List ℕ) (parts : List LineParts)
    → IsUtf8 paragraph → settings.initial_indent ≡ []
    → AreParagraphParts settings Divides is_later paragraph parts
    → (others : List LineParts) × AreDividedParts settings Divides is_later paragraph others
    × (map line_from others ≡ map line_from parts)

-- the same by the parts of any options, where they are built in
module _ {E C : Type 0} {e : _} {c : _} (settings : Settings) where
  abbrev pub DividesByParts : separators.WordSeparator C c → splitters.WordSplitter C c
      → algorithms.WrapAlgorithm E e → Bool → List ℕ → List (List WordText) → Type 0
  DividesByParts separator splitter algorithm =
      IsDividedInto settings (MaySeparate separator) (MaySplit splitter)
      (MayDivide algorithm (λ w. w))

  pub paragraph-divided-by : (separator : separators.WordSeparator C c)
      (splitter : splitters.WordSplitter C c) (algorithm : algorithms.WrapAlgorithm E e)
      → separator ≡ separators.TheVariants.AsciiSpace → splitter_view splitter ≢ None
      → algorithm_view algorithm ≢ None
      → IsDividedToo settings (DividesByParts separator splitter algorithm)
  paragraph-divided-by separator splitter algorithm is s_built a_built =
      by (splitter_view splitter) refl (algorithm_view algorithm) refl
    where
      by : (s : Option Splitter) → splitter_view splitter ≡ s → (a : Option Algorithm)
          → algorithm_view algorithm ≡ a
          → IsDividedToo settings (DividesByParts separator splitter algorithm)
      by None s_is a a_is = absurd (s_built s_is)
      by (Some s) s_is None a_is = absurd (a_built a_is)
      by (Some s) s_is (Some a) a_is = subst (IsDividedToo settings)
          (sym (divided-as settings separator splitter algorithm s a is s_is a_is))
          (paragraph-divided settings a s)

-- ---- errors that are passed on

pub passed-on : {A : Type 0} (result : Result A WrapError) (error : WrapError)
    → IsErrAnd result (λ e. e ≡ error) → error ≡ Memory alloc_error → OnlyMemoryRunsOut result
passed-on (Ok value) error is only = tt
passed-on (Err e) error is only = is ∙ only
