-- The widths of the lines of a division: lines that pass their width, and overflow.
use Rattle.textwrap_text.proofs.Common.{starts_with_of_append, nil_from_length, All-append}
use Rattle.textwrap_text.proofs.Common.{StartsWith, map-append, text_width, cond_both, Ok}
use Rattle.textwrap_text.proofs.Common.{All-head, IsErrAnd, eqb-true, flat_map, take_all, take_at}
use Rattle.textwrap_text.proofs.Common.{IsUtf8, Result, length, arith, false, rules, subst, Bool, ℕ}
use Rattle.textwrap_text.proofs.Common.{List, None, Some, cond, refl, take, true, zero, ◌++◌, ◌==◌}
use Rattle.textwrap_text.proofs.Common.{All, Err, map, suc, sym, ◌+◌, ◌<◌, ◌^◌, ◌∙◌, ◌∷◌, ◌≡◌, ◌≢◌}
use Rattle.textwrap_text.proofs.Common.{◌≤◌, [], ap}
use Rattle.textwrap_layout.proofs.Common.{AreWordsCut}
use Rattle.textwrap_layout.proofs.Common.{OnlyCharactersPass, IsOneCharacter, algorithm_view, Sizes}
use Rattle.textwrap_layout.proofs.Common.{ends_in_hyphen, IsDividedInto, IsDividedBy}
use Rattle.textwrap_layout.proofs.Common.{splitter_view, IsNarrowWord, fitting_pieces, AreSplit}
use Rattle.textwrap_layout.proofs.Common.{closed_width, front_pieces, tiled-append, MayOverflow}
use Rattle.textwrap_layout.proofs.Common.{later_width, total_width, Overflowed, AllFit}
use Rattle.textwrap_layout.proofs.Common.{empty_word, line_width, ArePieces, ByOptimalFit, LineParts}
use Rattle.textwrap_layout.proofs.Common.{MayDivide, line_from, line_view, widths_of, word_view}
use Rattle.textwrap_layout.proofs.Common.{AreTexts, MaySplit, Settings, WordText, sizes_of, AreCuts}
use Rattle.textwrap_layout.proofs.Common.{Options, ByFirstFit, Tiles, tiled, Fits, Word}
use Rattle.std.specs.declared.borrow.CowStr.{CowStr}
use Rattle.textwrap_text.proofs.Lists.Parts.{all-right, all-left, flat}
use Rattle.textwrap_base.specs.declared.penalties.Penalties.{Penalties}
use Rattle.textwrap_words.specs.declared.wrap_algorithms.WrapAlgorithm.{WrapAlgorithm}
use Rattle.textwrap_words.proofs.Word.Divisions.{MayDivide-begins, MayDivide-map}
use Rattle.textwrap_base.proofs.Cost.Measures.{total_width-same}
use Rattle.textwrap_words.proofs.Word.Words.{total_width-narrow, text_width-nil}
use Rattle.std.proofs.lemmas.Grind.{common_steps}
use Rattle.std.specs.Prelude.{alloc_error, IsSomeAnd}
use Rattle.textwrap_base.specs.Errors.{Fits64Bits, OnlyMemoryRunsOut}
use Rattle.textwrap_words.specs.WrapAlgorithms.{OverflowsBy}
use Rattle.textwrap_base.specs.declared.errors.WrapError.{WrapError}
use Rattle.textwrap_base.specs.declared.errors.WrapError.TheVariants.{Overflow, Memory}
use Rattle.textwrap_layout.specs.Fuzzing.{AppendsLines}
use Rattle.textwrap_layout.proofs.Paragraph.Pieces.{AreWordsCut-texts, pieces-bounded}
use Rattle.textwrap_words.proofs.Word.Parts.{MaySplit-hyphens, MaySplit-cuts}
use Rattle.textwrap_layout.proofs.Paragraph.Room.{ClosesIn, fitting-closes, fitting-closes_plain}
use Rattle.textwrap_layout.proofs.Paragraph.Room.{front-closes}
use Rattle.textwrap_base.proofs.Division.Map.{IsDivision-whole}
use Rattle.textwrap_words.proofs.Word.Pieces.{AreSplit-no_penalty, split-measured}
use Rattle.textwrap_words.specs.declared.wrap_algorithms.WrapAlgorithm as algorithms
use Rattle.textwrap_words.specs.declared.word_splitters.WordSplitter as splitters

-- ---- the lines of a division, where v gives each line's pieces

tiled-lines : {D : Type 0} (v : D → List Word) (division : List D)
    → flat_map (λ line. tiled (map word_view (v line))) division ≡ tiled
    (map word_view (flat_map (λ line. line) (map v division)))
tiled-lines v [] = refl
tiled-lines v (line ∷ lines) = search (rules, tiled-append, map-append, tiled-lines v lines)

views-lines : {D : Type 0} (v : D → List Word) (division : List D)
    → map (λ line. map word_view (v line)) division ≡ map (map word_view) (map v division)
views-lines v [] = refl
views-lines v (line ∷ lines) = ap (λ l. map word_view (v line) ∷ l) (views-lines v lines)

-- what an algorithm divides pieces into is what it divides their texts into
pub divides-views : {D F : Type 0} {f : _} (v : D → List Word) (algorithm : WrapAlgorithm F f)
    (widths : List ℕ) (pieces : List Word) (division : List D)
    → MayDivide algorithm word_view widths pieces (map v division)
    → MayDivide algorithm (λ w. w) widths (map word_view pieces)
    (map (λ line. map word_view (v line)) division)
divides-views v algorithm widths pieces division divided =
    rw (views-lines v division) (search (rules, arith, MayDivide-map))

-- lines that some pieces begin with
pub lines-begin : {D : Type 0} (v : D → List Word) (pieces rest : List Word) (division : List D)
    → flat (map v division) ++ rest ≡ pieces
    → StartsWith (tiled (map word_view pieces))
    (flat_map (λ line. tiled (map word_view (v line))) division)
lines-begin v pieces rest division is =
    let lines = flat (map v division) in
    rw (tiled-lines v division) (starts_with_of_append (tiled (map word_view pieces))
    (tiled (map word_view lines)) (tiled (map word_view rest))
    (rw (← is, map-append word_view lines rest) (tiled-append (map word_view lines) (map word_view rest))))

-- so do those that an algorithm divides them into
pub division-begins : {D F : Type 0} {f : _} (v : D → List Word) (algorithm : WrapAlgorithm F f)
    (widths : List ℕ) (pieces : List Word) (division : List D)
    → MayDivide algorithm word_view widths pieces (map v division)
    → StartsWith (tiled (map word_view pieces))
    (flat_map (λ line. tiled (map word_view (v line))) division)
division-begins v algorithm widths pieces division divided =
    search (rules, arith, MayDivide-begins, lines-begin)

-- ---- the widths of the pieces

pub sizes-word_view : (words : List Word) → map (λ word. sizes_of (word_view word)) words ≡ map sizes_of
    (map word_view words)
sizes-word_view [] = refl
sizes-word_view (w ∷ words) = ap (λ l. sizes_of (word_view w) ∷ l) (sizes-word_view words)

-- the widths of pieces without penalties are together at most the bytes that they tile
pub total_width-pieces : (paragraph : List ℕ) (words : List Word)
    → All IsNarrowWord (map word_view words) → Tiles (map word_view words) paragraph
    → total_width (λ word. sizes_of (word_view word)) words ≤ length paragraph
total_width-pieces paragraph words bounded tiles =
    search (rules, common_steps, total_width-narrow, total_width-same, sizes-word_view)

-- ---- lemmas on overflow: only where a caller gives the points of words, and optimal fit
-- divides them

-- an algorithm that refuses with Overflow is optimal fit
pub overflow-optimal : {E X : Type 0} {e : _} (algorithm : algorithms.WrapAlgorithm E e)
    (sizes : X → Sizes) (widths : List ℕ) (xs : List X)
    → IsSomeAnd (algorithm_view algorithm) (λ a. OverflowsBy a sizes widths xs)
    → (penalties : Penalties) × (algorithm_view algorithm ≡ Some (ByOptimalFit penalties))
overflow-optimal algorithms.TheVariants.FirstFit sizes widths xs overflows = absurd overflows
overflow-optimal (algorithms.TheVariants.OptimalFit penalties) sizes widths xs overflows =
    (penalties, refl)
overflow-optimal (algorithms.TheVariants.Custom given) sizes widths xs overflows = absurd overflows

-- an error that is no overflow
pub only-without : {A : Type 0} (result : Result A WrapError) → ¬ Overflowed result
    → OnlyMemoryRunsOut result
only-without (Ok value) never = tt
only-without (Err (Memory error)) never = refl
only-without (Err (Overflow error)) never = absurd (never tt)

-- whether a splitter is built in can be told
built_in-or : {C : Type 0} {c : _} (splitter : splitters.WordSplitter C c) {P : Type 0}
    → (splitter_view splitter ≡ None → P) → (splitter_view splitter ≢ None → P) → P
built_in-or splitters.TheVariants.NoHyphenation given built_in = built_in (λ is. cc)
built_in-or splitters.TheVariants.HyphenSplitter given built_in = built_in (λ is. cc)
built_in-or (splitters.TheVariants.Custom points) given built_in = given refl

module _ {E C : Type 0} {e : _} {c : _} (options : Options E C e c) where
  pub only-memory : (A : Type 0) (settings : Settings) (paragraph : List ℕ) (pieces : List Word)
      (result : Result A WrapError)
      → IsUtf8 paragraph → length paragraph < 2 ^ 63
      → ArePieces settings AreWordsCut
      (MaySplit options.word_splitter) paragraph (map word_view pieces)
      → Tiles (map word_view pieces) paragraph
      → (Overflowed result → (penalties : Penalties)
      × (algorithm_view options.wrap_algorithm ≡ Some (ByOptimalFit penalties)))
      → (Fits64Bits (total_width (λ word. sizes_of (word_view word)) pieces)
      → ¬ Overflowed result)
      → ¬ MayOverflow options → OnlyMemoryRunsOut result
  only-memory A settings paragraph pieces result utf8 short are tile overflow_only fits never =
      only-without result (λ over.
      built_in-or options.word_splitter (λ given. never (given, overflow_only over))
      (λ built_in.
      let bounded = pieces-bounded settings AreWordsCut
      (MaySplit options.word_splitter) AreWordsCut-texts
      (MaySplit-cuts options.word_splitter) (MaySplit-hyphens options.word_splitter built_in)
      paragraph (map word_view pieces) utf8 are in
      search (rules, arith, total_width-pieces)))

-- nor where the widths of the pieces fit
pub only-fitting : (A : Type 0) (pieces : List Word) (result : Result A WrapError)
    → (Fits64Bits (total_width (λ word. sizes_of (word_view word)) pieces) → ¬ Overflowed result)
    → Fits64Bits (total_width sizes_of (map word_view pieces)) → OnlyMemoryRunsOut result
only-fitting A pieces result fits few =
    only-without result (fits (subst Fits64Bits (sym (total_width-same
    (λ word. sizes_of (word_view word)) sizes_of pieces (map word_view pieces)
    (sizes-word_view pieces))) few))

-- a call that fails leaves the lines as they were
pub appends-none : {Z A : Type 0} (Refuses : Type 0) (Are : List LineParts → Type 0)
    (lines : List (CowStr Z)) (result : Result A WrapError) (error : WrapError)
    → IsErrAnd result (λ e. e ≡ error) → (¬ Refuses → error ≡ Memory alloc_error)
    → AppendsLines Refuses Are lines lines result
appends-none Refuses Are lines (Ok value) error is only = absurd is
appends-none Refuses Are lines (Err e) error is only = search (rules, arith)

-- a call that succeeds appends lines of its own
pub appends-own : {Z A : Type 0} (Refuses : Type 0) (Are : List LineParts → Type 0)
    (old own new : List (CowStr Z)) (parts : List LineParts) (value : A) → Are parts
    → map line_view own ≡ map line_from parts → new ≡ old ++ own
    → AppendsLines Refuses Are old new (Ok value)
appends-own Refuses Are old own new parts value are own_are is =
    search (rules, arith, map-append, take_at)

-- ---- a line that passes its width, and the lines of a division that do

-- two pieces or more never pass
two_fit : (width : ℕ) (w v : WordText) (ws : List WordText) → Fits sizes_of width (w ∷ v ∷ ws)
    → width < closed_width sizes_of (w ∷ v ∷ ws) → ⊥
two_fit width w v ws fits past = search (rules, take_all)

line_passes : (limit width : ℕ) (line : List WordText) → Fits sizes_of width line → limit ≤ width
    → All (ClosesIn limit) line → width < closed_width sizes_of line → IsOneCharacter line
line_passes limit width [] fits room close past = absurd (omega arith)
line_passes limit width (w ∷ []) fits room close past =
    (w, refl, All-head (ClosesIn limit) w [] close (omega (arith, past, room)))
line_passes limit width (w ∷ v ∷ ws) fits room close past = search (rules, two_fit)

pub lines_pass : (limit : ℕ) (widths : List ℕ) (number : ℕ) (lines : List (List WordText))
    → AllFit sizes_of widths number lines → ((k : ℕ) → number ≤ k → limit ≤ line_width widths k)
    → All (ClosesIn limit) (flat lines) → OnlyCharactersPass widths number lines
lines_pass limit widths number [] fit room close = tt
lines_pass limit widths number (line ∷ lines) fit room close = (
  line_passes limit (line_width widths number) line fit.0 (room number (omega arith))
      (all-left (ClosesIn limit) line (flat lines) close),
  lines_pass limit widths (number + 1) lines fit.1 (λ k from. room k (omega (arith, from)))
      (all-right (ClosesIn limit) line (flat lines) close),
)

pub later_is : (first later k : ℕ) → 1 ≤ k → line_width (first ∷ later ∷ []) k ≡ later
later_is first later k from = search rules

-- an empty piece in front has room on the first line, however narrow
first_passes : (width : ℕ) (line rest others : List WordText) → line ++ rest ≡ empty_word ∷ others
    → Fits sizes_of width line → width < closed_width sizes_of line → ⊥
first_passes width [] rest others is fits past = absurd (omega arith)
first_passes width (w ∷ []) rest others is fits past = search rules
first_passes width (w ∷ v ∷ ws) rest others is fits past = two_fit width w v ws fits past

pub front_passes : (first later : ℕ) (lines : List (List WordText)) (others : List WordText)
    → flat lines ≡ empty_word ∷ others → AllFit sizes_of (first ∷ later ∷ []) 0 lines
    → All (ClosesIn later) (flat lines) → OnlyCharactersPass (first ∷ later ∷ []) 0 lines
front_passes first later [] others is fit close = tt
front_passes first later (line ∷ lines) others is fit close = (
  λ past. absurd (search (rules, first_passes)),
  lines_pass later (first ∷ later ∷ []) 1 lines fit.1
      (λ k from. let same = later_is first later k from in omega (arith, same))
      (all-right (ClosesIn later) line (flat lines) close),
)

-- ---- the lines of a paragraph

module _ (settings : Settings) (Words : List ℕ → List WordText → Type 0)
    (Points : List ℕ → List ℕ → Type 0) where
  -- each piece keeps to a later line that ends with it, or has one character that takes columns
  abbrev pub PiecesClose : Type 0
  PiecesClose = (paragraph : List ℕ) (pieces : List WordText) → IsUtf8 paragraph
      → ArePieces settings Words Points paragraph pieces → All (ClosesIn (later_width settings)) pieces

  -- where words are broken
  module _ (breaks : settings.break_words ≡ true) where
    pieces_are : (paragraph : List ℕ) (pieces : List WordText)
        → (are : ArePieces settings Words Points paragraph pieces)
        → pieces ≡ front_pieces settings ++ fitting_pieces settings are.1
    pieces_are paragraph pieces (words, split, words_are, split_are, is) =
        let broken = front_pieces settings ++ fitting_pieces settings split in
        is ∙ ap (λ b. cond b broken split) breaks

    broken-close : (paragraph : List ℕ) (pieces : List WordText)
        → (are : ArePieces settings Words Points paragraph pieces)
        → All (ClosesIn (later_width settings)) (fitting_pieces settings are.1)
        → All (ClosesIn (later_width settings)) pieces
    broken-close paragraph pieces are close =
        let Closes = ClosesIn (later_width settings) in
        subst (All Closes) (sym (pieces_are paragraph pieces are))
        (All-append Closes (front_pieces settings) (fitting_pieces settings are.1)
        (front-closes (later_width settings) (length settings.initial_indent == 0)) close)

    -- by first fit
    pub long_lines : PiecesClose → (is_later : Bool) (paragraph : List ℕ)
        (division : List (List WordText)) → IsUtf8 paragraph
        → IsDividedInto settings Words Points (IsDividedBy ByFirstFit sizes_of) is_later paragraph
        division
        → OnlyCharactersPass (widths_of settings is_later) 0 division
    long_lines close is_later paragraph division utf8 (pieces, are, greedy) =
        by_front (length settings.initial_indent == 0) refl
      where
        whole : flat division ≡ pieces
        whole = IsDivision-whole pieces division greedy.admissible.division

        each : All (ClosesIn (later_width settings)) (flat division)
        each = subst (All (ClosesIn (later_width settings))) (sym whole) (close paragraph pieces utf8 are)

        fronted : pieces ≡ front_pieces settings ++ fitting_pieces settings are.1
        fronted = pieces_are paragraph pieces are

        room : text_width settings.initial_indent ≡ 0 → (k : ℕ) → 0 ≤ k
            → later_width settings ≤ line_width (widths_of settings is_later) k
        room narrow zero from = search (rules, cond_both)
        room narrow (suc k) from = search (rules, arith, later_is)

        by_front : (b : Bool) → (length settings.initial_indent == 0) ≡ b
            → OnlyCharactersPass (widths_of settings is_later) 0 division
        by_front true unindented =
            let empty = nil_from_length settings.initial_indent
            (eqb-true (length settings.initial_indent) 0 unindented) in
            let narrow : text_width settings.initial_indent ≡ 0 = ap text_width empty
            ∙ text_width-nil in search (rules, arith, lines_pass, room, each)
        by_front false indented = search (rules, arith, front_passes, each, fronted, whole)

    module _ (texts : (line : List ℕ) (words : List WordText) → IsUtf8 line → Words line words
        → AreTexts line words)
        (cuts : (text points : List ℕ) → IsUtf8 text → Points text points → AreCuts text points)
      where
        -- where points stand behind hyphens of the word alone, no piece has a penalty
        pub close-plain : ((text points : List ℕ) → Points text points
            → All (λ p. ends_in_hyphen (take p text) ≡ true) points) → PiecesClose
        close-plain hyphens paragraph pieces utf8 (words, split, words_are, split_are, is) =
            broken-close paragraph pieces (words, split, words_are, split_are, is)
            (fitting-closes_plain settings split
            (split-measured Words Points texts cuts paragraph split utf8 (words, words_are, split_are))
            (AreSplit-no_penalty Points hyphens words split (texts paragraph words utf8 words_are).plain
            split_are))

        -- where penalties are to have room, and later lines have it
        pub close-room : settings.room_for_hyphens ≡ true
            → ((paragraph : List ℕ) (words split : List WordText) → IsUtf8 paragraph → Words paragraph words
            → AreSplit Points words split → All (λ w. length w.penalty ≤ later_width settings) split)
            → PiecesClose
        close-room asked narrow paragraph pieces utf8 (words, split, words_are, split_are, is) =
            broken-close paragraph pieces (words, split, words_are, split_are, is)
            (fitting-closes settings asked split
            (split-measured Words Points texts cuts paragraph split utf8 (words, words_are, split_are))
            (narrow paragraph words split utf8 words_are split_are))
