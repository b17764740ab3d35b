-- The pieces of a paragraph: those of given points and of built-in parts; they tile it, and end as
-- its words do.
use Rattle.textwrap_text.proofs.Common.{slice_range, All-append, All-weaker, All-nil}
use Rattle.textwrap_text.proofs.Common.{IsUtf8-nil, append-nil, All-cons, All-head, All-tail, arith}
use Rattle.textwrap_text.proofs.Common.{flat_map, ltb-true, IsUtf8, Option, length, false, rules, ℕ}
use Rattle.textwrap_text.proofs.Common.{subst, Bool, List, None, Some, cond, refl, take, true, ◌++◌}
use Rattle.textwrap_text.proofs.Common.{All, sym, ◌<◌, ◌↔◌, ◌∙◌, ◌∷◌, ◌≡◌, ◌≢◌, [], ap}
use Rattle.textwrap_layout.proofs.Common.{AreWordsCut}
use Rattle.textwrap_layout.proofs.Common.{IsNarrowWord-measured, AreSplit-computed, pieces_of_words}
use Rattle.textwrap_layout.proofs.Common.{ArePlacedLines, algorithm_view, ends_in_hyphen, Algorithm}
use Rattle.textwrap_layout.proofs.Common.{IsDividedInto, settings_view, splitter_view, AreTextLines}
use Rattle.textwrap_layout.proofs.Common.{HasNoPenalty, IsNarrowWord, fitting_pieces}
use Rattle.textwrap_layout.proofs.Common.{front_pieces}
use Rattle.textwrap_layout.proofs.Common.{tiled-append, words_unique, IsDividedBy, MaySeparate}
use Rattle.textwrap_layout.proofs.Common.{broken_word, pieces_with, split_words, Whole}
use Rattle.textwrap_layout.proofs.Common.{AreWordsOf, HasMethods, IsMeasured, AreTexts}
use Rattle.textwrap_layout.proofs.Common.{empty_word, last_piece, last_space, split_from, ArePieces}
use Rattle.textwrap_layout.proofs.Common.{split_word, ArePoints, DividesAs, DividesBy, MayDivide}
use Rattle.textwrap_layout.proofs.Common.{pieces_by, pieces_of, widths_of, words_cut, CanBeCut}
use Rattle.textwrap_layout.proofs.Common.{HasParts, IsFilled, MaySplit, Settings, Splitter, AreCuts}
use Rattle.textwrap_layout.proofs.Common.{WordText, sizes_of, words_of, Options, word_of, piece}
use Rattle.textwrap_layout.proofs.Common.{tiled, Line}
use Rattle.textwrap_text.proofs.Lists.Parts.{all-left, Begins, flat}
use Rattle.textwrap_words.proofs.Word.BrokenPieces.{broken_words-no_penalty, broken_texts-some}
use Rattle.textwrap_layout.proofs.Paragraph.Room.{fitting-measured, fitting-plain, fitting-tile}
use Rattle.textwrap_layout.proofs.Paragraph.Room.{wide-some}
use Rattle.textwrap_words.proofs.Word.Words.{text_width-nil, EndsInBlanks}
use Rattle.textwrap_words.proofs.Word.Words.{no_blanks}
use Rattle.textwrap_words.proofs.Word.Pieces.{AreSplit-no_penalty, ArePoints-hyphens, AreSplitWords}
use Rattle.textwrap_words.proofs.Word.Pieces.{split_pieces_of, ArePoints-cuts, AreTexts-words}
use Rattle.textwrap_words.proofs.Word.Pieces.{split-measured, AreSplit-is, split-tile}
use Rattle.textwrap_words.proofs.Word.Cuts.{inner-cuts}
use Rattle.textwrap_words.proofs.Word.Parts.{parts-texts}
use Rattle.textwrap_layout.specs.Paragraph.{DividesUnder}
use Rattle.textwrap_layout.specs.declared.places.Place.{Place}
use Rattle.std.specs.Prelude.{IfSome}
use Rattle.textwrap_words.specs.declared.wrap_algorithms.WrapAlgorithm as algorithms
use Rattle.textwrap_words.specs.declared.word_separators.WordSeparator as separators
use Rattle.textwrap_words.specs.declared.word_splitters.WordSplitter as splitters

-- ---- the pieces of words at any points where they may be cut, and what lines of them cover

tiled-front : (b : Bool) → tiled (cond b [] (empty_word ∷ [])) ≡ []
tiled-front true = refl
tiled-front false = refl

front-measured : (b : Bool) → All IsMeasured (cond b [] (empty_word ∷ []))
front-measured true = All-nil IsMeasured
front-measured false = search (rules, All-cons, IsUtf8-nil, text_width-nil, no_blanks, All-nil)

front-no_penalty : (b : Bool) → All HasNoPenalty (cond b [] (empty_word ∷ []))
front-no_penalty true = All-nil HasNoPenalty
front-no_penalty false = All-cons HasNoPenalty empty_word [] refl (All-nil HasNoPenalty)

module _ (settings : Settings) (Words : List ℕ → List WordText → Type 0)
    (Points : List ℕ → List ℕ → Type 0)
    (texts : (line : List ℕ) (words : List WordText) → IsUtf8 line → Words line words
    → AreTexts line words)
    (cuts : (text points : List ℕ) → IsUtf8 text → Points text points → AreCuts text points) where
  broken-tile : (paragraph : List ℕ) (split : List WordText) → IsUtf8 paragraph
      → AreSplitWords Words Points texts cuts paragraph split
      → tiled (fitting_pieces settings split) ≡ paragraph
  broken-tile paragraph split utf8 are =
      fitting-tile settings split (split-measured Words Points texts cuts paragraph split utf8 are)
      ∙ split-tile Words Points texts cuts paragraph split utf8 are

  pub pieces-tile : (paragraph : List ℕ) (pieces : List WordText) → IsUtf8 paragraph
      → ArePieces settings Words Points paragraph pieces → tiled pieces ≡ paragraph
  pieces-tile paragraph pieces utf8 (words, split, words_are, split_are, is) =
      let are : AreSplitWords Words Points texts cuts paragraph split = (words, words_are, split_are) in
      let broken = fitting_pieces settings split in
      ap tiled is ∙ (elim settings.break_words as (λ b. tiled
      (cond b (front_pieces settings ++ broken) split) ≡ paragraph) [
        | true ↦ search (rules, arith, tiled-append, tiled-front, broken-tile)
        | false ↦ split-tile Words Points texts cuts paragraph split utf8 are
      ])

  pub pieces-measured : (paragraph : List ℕ) (pieces : List WordText) → IsUtf8 paragraph
      → ArePieces settings Words Points paragraph pieces → All IsMeasured pieces
  pieces-measured paragraph pieces utf8 (words, split, words_are, split_are, is) =
      let broken = fitting_pieces settings split in
      let measured = split-measured Words Points texts cuts paragraph split utf8 (words, words_are, split_are) in
      subst (All IsMeasured) (sym is) (elim settings.break_words as (λ b. All IsMeasured
      (cond b (front_pieces settings ++ broken) split)) [
        | true ↦ search (rules, arith, All-append, front-measured, fitting-measured)
        | false ↦ measured
      ])

  module _ (Lines : List ℕ → List WordText → List (List WordText) → Type 0)
      (begins : (widths : List ℕ) (pieces : List WordText) (division : List (List WordText))
      → Lines widths pieces division → Begins pieces (flat division)) where
    pub divided-begin : (is_later : Bool) (paragraph : List ℕ) (division : List (List WordText))
        → IsUtf8 paragraph → IsDividedInto settings Words Points Lines is_later paragraph division
        → Begins paragraph (tiled (flat division))
    divided-begin is_later paragraph division utf8 (pieces, are, divided) =
        search (rules, arith, tiled-append, pieces-tile paragraph pieces utf8 are)

    pub divided-blanks : (is_later : Bool) (paragraph : List ℕ) (division : List (List WordText))
        → IsUtf8 paragraph → IsDividedInto settings Words Points Lines is_later paragraph division
        → All EndsInBlanks (flat division)
    divided-blanks is_later paragraph division utf8 (pieces, are, divided) =
        let (rest, is) = begins (widths_of settings is_later) pieces division divided in
        all-left EndsInBlanks (flat division) rest
        (subst (All EndsInBlanks) (sym is)
        (All-weaker IsMeasured EndsInBlanks (λ w measured. measured.ending) pieces
        (pieces-measured paragraph pieces utf8 are)))

  module _ (hyphens : (text points : List ℕ) → Points text points
      → All (λ p. ends_in_hyphen (take p text) ≡ true) points) where
    pub pieces-no_penalty : (paragraph : List ℕ) (pieces : List WordText) → IsUtf8 paragraph
        → ArePieces settings Words Points paragraph pieces → All HasNoPenalty pieces
    pieces-no_penalty paragraph pieces utf8 (words, split, words_are, split_are, is) =
        grind (
          arith,
          AreSplit-no_penalty,
          All-append,
          front-no_penalty,
          fitting-plain,
          broken_words-no_penalty,
        )

    pub pieces-bounded : (paragraph : List ℕ) (pieces : List WordText) → IsUtf8 paragraph
        → ArePieces settings Words Points paragraph pieces → All IsNarrowWord pieces
    pieces-bounded paragraph pieces utf8 are =
        search (rules, arith, pieces-measured, pieces-no_penalty, IsNarrowWord-measured)

-- ---- the words that an iterator has given

pub word_of-nil : word_of [] ≡ empty_word
word_of-nil = simp text_width-nil

-- ---- the built-in parts leave exactly the computed pieces

-- where the words of a line are those that a function names
pub ArePieces-by : (Words : List ℕ → List WordText → Type 0) (words : List ℕ → List WordText)
    → ((line : List ℕ) (ws : List WordText) → Words line ws → ws ≡ words line)
    → (settings : Settings) (splitter : Splitter) (paragraph : List ℕ) (pieces : List WordText)
    → ArePieces settings Words (ArePoints splitter) paragraph pieces
    → pieces ≡ pieces_by settings words splitter paragraph
ArePieces-by Words words named settings splitter paragraph pieces
    (ws, split, ws_are, split_are, is) = search (rules, arith, AreSplit-is)

pub ArePieces-is : (settings : Settings) (splitter : Splitter) (paragraph : List ℕ)
    (pieces : List WordText) → ArePieces settings AreWordsOf (ArePoints splitter) paragraph pieces
    → pieces ≡ pieces_of settings splitter paragraph
ArePieces-is = ArePieces-by AreWordsOf words_of (λ line words are. (words_unique line words).0 are)

pub ArePieces-computed : (settings : Settings) (splitter : Splitter) (paragraph : List ℕ)
    → ArePieces settings AreWordsOf (ArePoints splitter) paragraph
    (pieces_of settings splitter paragraph)
ArePieces-computed settings splitter paragraph = (
  words_of paragraph,
  split_pieces_of splitter paragraph,
  (words_unique paragraph (words_of paragraph)).1 refl,
  AreSplit-computed splitter (words_of paragraph),
  refl,
)

pub ArePieces-unique : (settings : Settings) (splitter : Splitter) (paragraph : List ℕ)
    (pieces : List WordText)
    → ArePieces settings AreWordsOf (ArePoints splitter) paragraph pieces
    ↔ (pieces ≡ pieces_of settings splitter paragraph)
ArePieces-unique settings splitter paragraph pieces = (
  ArePieces-is settings splitter paragraph pieces,
  λ is. subst (ArePieces settings AreWordsOf (ArePoints splitter) paragraph) (sym is)
      (ArePieces-computed settings splitter paragraph),
)

-- ---- the pieces of words that are texts and tile a paragraph

module _ (settings : Settings) (splitter : Splitter) (paragraph : List ℕ) (words : List WordText)
    (utf8 : IsUtf8 paragraph) (texts : AreTexts paragraph words) where
  are : ArePieces settings AreTexts (ArePoints splitter) paragraph
      (pieces_of_words settings splitter words)
  are = (words, split_words splitter words, texts, AreSplit-computed splitter words, refl)

  pub split_words-measured : All IsMeasured (split_words splitter words)
  split_words-measured = split-measured AreTexts (ArePoints splitter) (λ _ _ _ given. given)
      (ArePoints-cuts splitter) paragraph _ utf8 (words, texts, AreSplit-computed splitter words)

  pub split_words-no_penalty : All HasNoPenalty (split_words splitter words)
  split_words-no_penalty = AreSplit-no_penalty (ArePoints splitter) (ArePoints-hyphens splitter) words
      (split_words splitter words) texts.plain (AreSplit-computed splitter words)

  pub split_words-tile : tiled (split_words splitter words) ≡ paragraph
  split_words-tile = split-tile AreTexts (ArePoints splitter) (λ _ _ _ given. given)
      (ArePoints-cuts splitter) paragraph _ utf8 (words, texts, AreSplit-computed splitter words)

  pub pieces_of_words-tile : tiled (pieces_of_words settings splitter words) ≡ paragraph
  pieces_of_words-tile = search (rules, arith, pieces-tile, ArePoints-cuts, are)

  pub pieces_of_words-measured : All IsMeasured (pieces_of_words settings splitter words)
  pieces_of_words-measured = search (rules, arith, pieces-measured, ArePoints-cuts, are)

  pub pieces_of_words-no_penalty : All HasNoPenalty (pieces_of_words settings splitter words)
  pieces_of_words-no_penalty = pieces-no_penalty settings AreTexts (ArePoints splitter)
      (λ _ _ _ given. given) (ArePoints-cuts splitter) (ArePoints-hyphens splitter) paragraph _ utf8 are

-- ---- those of words between blanks

module _ (paragraph : List ℕ) (utf8 : IsUtf8 paragraph) where
  pub words_of-texts : AreTexts paragraph (words_of paragraph)
  words_of-texts = AreTexts-words paragraph (words_of paragraph) utf8
      ((words_unique paragraph (words_of paragraph)).1 refl)

module _ (settings : Settings) (splitter : Splitter) (paragraph : List ℕ)
    (utf8 : IsUtf8 paragraph) where
  abbrev texts : AreTexts paragraph (words_of paragraph)
  texts = words_of-texts paragraph utf8

  pub pieces_of-tile : tiled (pieces_of settings splitter paragraph) ≡ paragraph
  pieces_of-tile = pieces_of_words-tile settings splitter paragraph (words_of paragraph) utf8 texts

  pub pieces_of-no_penalty : All HasNoPenalty (pieces_of settings splitter paragraph)
  pieces_of-no_penalty =
      pieces_of_words-no_penalty settings splitter paragraph (words_of paragraph) utf8 texts

-- ---- the pieces of a paragraph that is cut at cuts or at blanks

-- its words are texts that tile it
pub words_cut-texts : (cuts : Option (List ℕ)) (paragraph : List ℕ) → IsUtf8 paragraph
    → CanBeCut cuts paragraph → AreTexts paragraph (words_cut cuts paragraph)
words_cut-texts None paragraph utf8 can = words_of-texts paragraph utf8
words_cut-texts (Some cuts) paragraph utf8 can = search (rules, arith, parts-texts, inner-cuts)

pub AreWordsCut-texts : (line : List ℕ) (words : List WordText) → IsUtf8 line
    → AreWordsCut line words → AreTexts line words
AreWordsCut-texts line words utf8 (cuts, can, is) =
    subst (AreTexts line) (sym is) (words_cut-texts cuts line utf8 can)

-- ---- words that are replaced by pieces of them end as they did

pub last_piece-append : (w : WordText) (ws : List WordText) (v : WordText) (vs : List WordText)
    → last_piece w (ws ++ v ∷ vs) ≡ last_piece v vs
last_piece-append w [] v vs = refl
last_piece-append w (u ∷ ws) v vs = last_piece-append u ws v vs

pub last_space-append : (ws vs : List WordText) → 0 < length vs
    → last_space (ws ++ vs) ≡ last_space vs
last_space-append [] vs some = refl
last_space-append (w ∷ ws) [] some = absurd (omega arith)
last_space-append (w ∷ ws) (v ∷ vs) some = ap (λ u. u.whitespace) (last_piece-append w ws v vs)

-- the pieces end with the word's own whitespace
pub record EndsAs (f : WordText → List WordText) (w : WordText) : Type 0 where
  pub some : 0 < length (f w)
  pub space : last_space (f w) ≡ w.whitespace

pub flat_map-space : (f : WordText → List WordText) (ws : List WordText) → All (EndsAs f) ws
    → last_space (flat_map f ws) ≡ last_space ws
flat_map-space f [] all = refl
flat_map-space f (w ∷ []) all = search (rules, append-nil, All-head)
flat_map-space f (w ∷ v ∷ ws) all =
    let rest = All-tail (EndsAs f) w (v ∷ ws) all in
    search (rules, arith, last_space-append, All-head, flat_map-space f (v ∷ ws) rest)

split_from-some : (w : WordText) (start : ℕ) (points : List ℕ)
    → 0 < length (split_from w start points)
split_from-some w start [] = omega arith
split_from-some w start (point ∷ points) = omega arith

split_from-space : (w : WordText) (start : ℕ) (points : List ℕ)
    → last_space (split_from w start points) ≡ w.whitespace
split_from-space w start [] = refl
split_from-space w start (point ∷ points) =
    search (rules, last_space-append, slice_range, split_from-some, split_from-space w point points)

pub split_word-ends : (splitter : Splitter) (w : WordText) → EndsAs (split_word splitter) w
split_word-ends splitter w = search (rules, split_from-some, split_from-space)

pieces_with-some : (whitespace penalty : List ℕ) (texts : List (List ℕ)) → texts ≢ []
    → 0 < length (pieces_with whitespace penalty texts)
pieces_with-some whitespace penalty [] some = absurd (some refl)
pieces_with-some whitespace penalty (text ∷ []) some = omega arith
pieces_with-some whitespace penalty (text ∷ next ∷ texts) some = omega arith

pieces_with-space : (whitespace penalty : List ℕ) (texts : List (List ℕ)) → texts ≢ []
    → last_space (pieces_with whitespace penalty texts) ≡ whitespace
pieces_with-space whitespace penalty [] some = absurd (some refl)
pieces_with-space whitespace penalty (text ∷ []) some = refl
pieces_with-space whitespace penalty (text ∷ next ∷ texts) some =
    let more : next ∷ texts ≢ [] = λ none. absurd (omega (arith, ap length none)) in
    last_space-append (piece text [] [] ∷ []) (pieces_with whitespace penalty (next ∷ texts))
    (pieces_with-some whitespace penalty (next ∷ texts) more)
    ∙ pieces_with-space whitespace penalty (next ∷ texts) more

broken_word-ends : (limit : ℕ) (w : WordText) → IsMeasured w
    → (0 < length (broken_word limit w)) × (last_space (broken_word limit w) ≡ w.whitespace)
broken_word-ends limit w measured =
    grind (arith, broken_texts-some, wide-some, ltb-true, pieces_with-some, pieces_with-space)

pub broken_words-ends : (limit : ℕ) (words : List WordText) → All IsMeasured words
    → All (EndsAs (broken_word limit)) words
broken_words-ends limit words measured = All-weaker IsMeasured (EndsAs (broken_word limit))
    (λ w m. let ends = broken_word-ends limit w m in record { some = ends.0; space = ends.1 })
    words measured

-- ---- lemmas on built-in parts among the options: what they divide is what the parts do as
-- values

pub points-as : {C : Type 0} {c : _} (splitter : splitters.WordSplitter C c) (s : Splitter)
    → splitter_view splitter ≡ Some s → MaySplit splitter ≡ ArePoints s
points-as splitters.TheVariants.NoHyphenation s is = let same : Whole ≡ s = cc in ap ArePoints same
points-as splitters.TheVariants.HyphenSplitter s is = search (rules, arith)
points-as (splitters.TheVariants.Custom given) s is = cc

pub division-as : {E : Type 0} {e : _} (algorithm : algorithms.WrapAlgorithm E e) (a : Algorithm)
    → algorithm_view algorithm ≡ Some a → MayDivide algorithm (λ w. w) ≡ IsDividedBy a sizes_of
division-as algorithms.TheVariants.FirstFit a is = search (rules, arith)
division-as (algorithms.TheVariants.OptimalFit penalties) a is = search (rules, arith)
division-as (algorithms.TheVariants.Custom given) a is = cc

module _ {E C : Type 0} {e : _} {c : _} (settings : Settings) where
  pub divided-as : (separator : separators.WordSeparator C c)
      (splitter : splitters.WordSplitter C c) (algorithm : algorithms.WrapAlgorithm E e)
      (s : Splitter) (a : Algorithm) → separator ≡ separators.TheVariants.AsciiSpace
      → splitter_view splitter ≡ Some s → algorithm_view algorithm ≡ Some a
      → IsDividedInto settings (MaySeparate separator) (MaySplit splitter)
      (MayDivide algorithm (λ w. w))
      ≡ DividesAs s a settings
  divided-as separator splitter algorithm s a is is_splitter is_algorithm =
      rw (is, points-as splitter s is_splitter, division-as algorithm a is_algorithm)

module _ {E C : Type 0} {e : _} {c : _} (options : Options E C e c) (settings : Settings)
    (splitter : Splitter) (algorithm : Algorithm)
    (parts : HasParts options settings splitter algorithm) where
  -- under any settings
  pub divides-under : (s : Settings) → DividesUnder options s ≡ DividesAs splitter algorithm s
  divides-under s = search (rules, arith, divided-as)

  pub divides : DividesBy options ≡ DividesAs splitter algorithm settings
  divides =
      divides-under (settings_view options) ∙ ap (DividesAs splitter algorithm) parts.settings_are

  pub lines-as : (text : List ℕ) (lines : List Line)
      → AreTextLines (settings_view options) (DividesBy options) text lines
      → AreTextLines settings (DividesAs splitter algorithm settings) text lines
  lines-as text lines are = grind (arith, divides)

  pub filled-as : (text filled : List ℕ)
      → IsFilled (settings_view options) (DividesBy options) text filled
      → IsFilled settings (DividesAs splitter algorithm settings) text filled
  filled-as text filled is = grind (arith, divides)

  pub placed-as : (text : List ℕ) (lines : List Line) (places : List Place)
      → ArePlacedLines (settings_view options) (DividesBy options) text lines places
      → ArePlacedLines settings (DividesAs splitter algorithm settings) text lines places
  placed-as text lines places are = grind (arith, divides)

-- ---- built-in parts of options

-- a paragraph whose pieces are divided so by the built-in parts of the options, whatever finds its words
pub direct-divided : {E C : Type 0} {e : _} {c : _} (options : Options E C e c)
    (settings : Settings) (Words : List ℕ → List WordText → Type 0) (splitter : Splitter) (algorithm : Algorithm)
    (built_in : HasMethods options splitter algorithm) (is_later : Bool) (paragraph : List ℕ)
    (words : List WordText) (division : List (List WordText)) → Words paragraph words
    → IsDividedBy algorithm sizes_of (widths_of settings is_later)
    (pieces_of_words settings splitter words) division
    → IsDividedInto settings Words (MaySplit options.word_splitter)
    (MayDivide options.wrap_algorithm (λ w. w)) is_later paragraph division
direct-divided options settings Words splitter algorithm built_in is_later paragraph words division are by =
    rw (
      points-as options.word_splitter splitter built_in.splitter_is,
      division-as options.wrap_algorithm algorithm built_in.algorithm_is,
    ) (
      pieces_of_words settings splitter words,
      (words, split_words splitter words, are, AreSplit-computed splitter words, refl),
      by,
    )

pub if_some : {X : Type 0} {P Q : X → Type 0} (o : Option X) → ((x : X) → P x → Q x) → IfSome o P
    → IfSome o Q
if_some None more none = tt
if_some (Some x) more is = more x is
