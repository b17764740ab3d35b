-- The pieces of split words: they tile their words, are texts, and stand one after another.
use Rattle.textwrap_text.proofs.Common.{flat_map-append, IsCharBoundary, IsCharBoundary-start, List}
use Rattle.textwrap_text.proofs.Common.{append_assoc, BlanksBetween, IsUtf8-between, IsUtf8-drop, ℕ}
use Rattle.textwrap_text.proofs.Common.{All-append, and_parts, append-nil, drop_split, slice_range}
use Rattle.textwrap_text.proofs.Common.{All-cons, All-head, All-tail, cases_lt, eqb-true, is_blank}
use Rattle.textwrap_text.proofs.Common.{[], All-map, All-nil, arith, chunks, get_or, IsUtf8, length}
use Rattle.textwrap_text.proofs.Common.{All, drop, false, inl, refl, rules, subst, take, true, ◌++◌}
use Rattle.textwrap_text.proofs.Common.{ap, inr, map, sym, ◌+◌, ◌<◌, ◌∙◌, ◌∷◌, ◌≡◌, ◌≤◌}
use Rattle.textwrap_text.proofs.Units.Chunks.{chunks-utf8}
use Rattle.std.proofs.lemmas.List.Elements.{filter_passes}
use Rattle.textwrap_words.proofs.Common.{IsCharBoundary-after_blank, IsFirstWord, pieces_from_place}
use Rattle.textwrap_words.proofs.Common.{ends_in_hyphen, IsNextPoint, length-slice, split_pieces}
use Rattle.textwrap_words.proofs.Common.{AreSplit, AreWordsOf, cut_penalty, split_from, split_words}
use Rattle.textwrap_words.proofs.Common.{ArePoints, AtHyphens, points_of, split_word, stand_from}
use Rattle.textwrap_words.proofs.Common.{AreCuts, AreNext, Splitter, tile_of, words_of, WordText}
use Rattle.textwrap_words.proofs.Common.{piece, tiled, Whole, word_of}
use Rattle.textwrap_words.proofs.Word.{Splitting.points_of-cuts, Words.words-measured}
use Rattle.textwrap_words.proofs.Word.Words.{HasNoPenalty, IsMeasured, tiled-words_of, words_unique}

-- ---- split pieces tile their word

tiled-split_from : (w : WordText) (start : ℕ) (points : List ℕ)
    → AreNext (IsNextPoint w.word) points start
    → tiled (split_from w start points) ≡ drop start w.word ++ w.whitespace
tiled-split_from w start [] are = append-nil (drop start w.word ++ w.whitespace)
tiled-split_from w start (point ∷ points) ((after, _, _), rest) =
    rw (append-nil (slice_range w.word start point), tiled-split_from w point points rest)
    (sym (append_assoc (slice_range w.word start point) (drop point w.word) w.whitespace)
    ∙ ap (λ l. l ++ w.whitespace) (sym (drop_split w.word start point after)))

pub tiled-split_pieces : (points : List ℕ) (w : WordText) → AreCuts w.word points
    → tiled (split_pieces points w) ≡ tile_of w
tiled-split_pieces points w cuts = tiled-split_from w 0 points cuts

pub tiled-split_words : (splitter : Splitter) (words : List WordText)
    → All (λ w. IsUtf8 w.word) words → tiled (split_words splitter words) ≡ tiled words
tiled-split_words splitter [] utf8 = refl
tiled-split_words splitter (w ∷ words) utf8 =
    let first = tiled-split_pieces (points_of splitter w.word) w
    (points_of-cuts splitter w.word (All-head (λ v. IsUtf8 v.word) w words utf8)) in
    rw (
      flat_map-append tile_of (split_word splitter w) (split_words splitter words),
      first,
      tiled-split_words splitter words (All-tail (λ v. IsUtf8 v.word) w words utf8),
    )

-- one word more is split
pub AreSplit-push : (Points : List ℕ → List ℕ → Type 0) (words pieces : List WordText)
    (w : WordText) (points : List ℕ) → AreSplit Points words pieces → Points w.word points
    → AreSplit Points (words ++ w ∷ []) (pieces ++ split_pieces points w)
AreSplit-push Points [] pieces w points are here = grind (arith, append-nil)
AreSplit-push Points (v ∷ words) pieces w points (given, rest, given_are, rest_are, is) here =
    grind (arith, append_assoc, AreSplit-push Points words rest w points rest_are here)

-- ---- the pieces of built-in parts are the computed ones

abbrev pub split_pieces_of : Splitter → List ℕ → List WordText
split_pieces_of splitter paragraph = split_words splitter (words_of paragraph)

pub AreSplit-is : (splitter : Splitter) (words pieces : List WordText)
    → AreSplit (ArePoints splitter) words pieces → pieces ≡ split_words splitter words
AreSplit-is splitter [] pieces are = are
AreSplit-is splitter (w ∷ words) pieces (points, rest, points_are, rest_are, is) =
    grind (arith, AreSplit-is splitter words rest rest_are)

pub AreSplit-computed : (splitter : Splitter) (words : List WordText)
    → AreSplit (ArePoints splitter) words (split_words splitter words)
AreSplit-computed splitter [] = refl
AreSplit-computed splitter (w ∷ words) = grind (arith, AreSplit-computed splitter words)

-- ---- words and their pieces are texts

-- words that tile a line, each measured and without a penalty
pub record AreTexts (line : List ℕ) (words : List WordText) : Type 0 where
  pub tile : tiled words ≡ line
  pub measured : All IsMeasured words
  pub plain : All HasNoPenalty words

pub split_from-measured : (w : WordText) (start : ℕ) (points : List ℕ) → IsMeasured w
    → IsCharBoundary w.word start → AreNext (IsNextPoint w.word) points start
    → All IsMeasured (split_from w start points)
split_from-measured w start [] measured at are = search (All-cons, IsUtf8-drop, All-nil)
split_from-measured w start (point ∷ points) measured at ((after, inside, next), rest) =
    let first : IsMeasured (piece (slice_range w.word start point) [] (cut_penalty w.word point)) =
    search (rules, IsUtf8-between, All-nil) in
    search (rules, arith, All-cons, measured, split_from-measured w point points measured next rest)

-- the splitter cuts after hyphens alone
points_of-hyphens : (splitter : Splitter) (text : List ℕ)
    → All (λ p. ends_in_hyphen (take p text) ≡ true) (points_of splitter text)
points_of-hyphens Whole text = All-nil (λ p. ends_in_hyphen (take p text) ≡ true)
points_of-hyphens AtHyphens text = grind (arith, and_parts, filter_passes)

pub split_from-no_penalty : (w : WordText) (start : ℕ) (points : List ℕ) → HasNoPenalty w
    → All (λ p. ends_in_hyphen (take p w.word) ≡ true) points
    → All HasNoPenalty (split_from w start points)
split_from-no_penalty w start [] none ends = grind (arith, All-cons, All-nil)
split_from-no_penalty w start (point ∷ points) none ends =
    grind (
      arith,
      All-cons,
      All-head,
      All-tail,
      split_from-no_penalty w point points none (All-tail (λ p. ends_in_hyphen (take p w.word) ≡ true) point points ends),
    )

-- the parts of a line, each taken as a word
pub AreTexts-parts : (line : List ℕ) (parts : List (List ℕ)) → tiled (map word_of parts) ≡ line
    → All IsUtf8 parts → AreTexts line (map word_of parts)
AreTexts-parts line parts tile utf8 = search (words-measured, All-map)

pub AreTexts-words : (line : List ℕ) (words : List WordText) → IsUtf8 line → AreWordsOf line words
    → AreTexts line words
AreTexts-words line words utf8 are = subst (AreTexts line) (sym ((words_unique line words).0 are))
    (AreTexts-parts line (chunks line) (tiled-words_of line) (chunks-utf8 line utf8))

pub ArePoints-cuts : (splitter : Splitter) (text points : List ℕ) → IsUtf8 text
    → ArePoints splitter text points → AreCuts text points
ArePoints-cuts splitter text points utf8 are = search (rules, arith, points_of-cuts)

pub ArePoints-hyphens : (splitter : Splitter) (text points : List ℕ)
    → ArePoints splitter text points → All (λ p. ends_in_hyphen (take p text) ≡ true) points
ArePoints-hyphens splitter text points are = grind (arith, points_of-hyphens)

-- ---- the pieces of words that are split at any points where they may be cut

module _ (Words : List ℕ → List WordText → Type 0) (Points : List ℕ → List ℕ → Type 0)
    (texts : (line : List ℕ) (words : List WordText) → IsUtf8 line → Words line words
    → AreTexts line words)
    (cuts : (text points : List ℕ) → IsUtf8 text → Points text points → AreCuts text points) where
  AreSplit-measured : (words pieces : List WordText) → All IsMeasured words
      → AreSplit Points words pieces → All IsMeasured pieces
  AreSplit-measured [] pieces all are = subst (All IsMeasured) (sym are) (All-nil IsMeasured)
  AreSplit-measured (w ∷ words) pieces all (points, rest, points_are, rest_are, is) =
      let measured = All-head IsMeasured w words all in
      let at = cuts w.word points measured.utf8 points_are in
      subst (All IsMeasured) (sym is)
      (All-append IsMeasured (split_pieces points w) rest
      (split_from-measured w 0 points measured (IsCharBoundary-start w.word measured.utf8)
      at)
      (AreSplit-measured words rest (All-tail IsMeasured w words all) rest_are))

  AreSplit-tile : (words pieces : List WordText) → All IsMeasured words
      → AreSplit Points words pieces → tiled pieces ≡ tiled words
  AreSplit-tile [] pieces all are = ap tiled are
  AreSplit-tile (w ∷ words) pieces all (points, rest, points_are, rest_are, is) =
      let again = AreSplit-tile words rest (All-tail IsMeasured w words all) rest_are in
      grind (arith, All-head, flat_map-append, tiled-split_pieces)

  -- the split words of a paragraph
  abbrev pub AreSplitWords : List ℕ → List WordText → Type 0
  AreSplitWords paragraph split =
      (words : List WordText) × Words paragraph words × AreSplit Points words split

  pub split-measured : (paragraph : List ℕ) (split : List WordText) → IsUtf8 paragraph
      → AreSplitWords paragraph split → All IsMeasured split
  split-measured paragraph split utf8 (words, words_are, split_are) =
      AreSplit-measured words split (texts paragraph words utf8 words_are).measured split_are

  pub split-tile : (paragraph : List ℕ) (split : List WordText) → IsUtf8 paragraph
      → AreSplitWords paragraph split → tiled split ≡ paragraph
  split-tile paragraph split utf8 (words, words_are, split_are) = grind (arith, AreSplit-tile)

module _ (Points : List ℕ → List ℕ → Type 0) (hyphens : (text points : List ℕ)
    → Points text points → All (λ p. ends_in_hyphen (take p text) ≡ true) points) where
  pub AreSplit-no_penalty : (words pieces : List WordText) → All HasNoPenalty words
      → AreSplit Points words pieces → All HasNoPenalty pieces
  AreSplit-no_penalty [] pieces all are = subst (All HasNoPenalty) (sym are) (All-nil HasNoPenalty)
  AreSplit-no_penalty (w ∷ words) pieces all (points, rest, points_are, rest_are, is) =
      subst (All HasNoPenalty) (sym is)
      (All-append HasNoPenalty (split_pieces points w) rest
      (split_from-no_penalty w 0 points (All-head HasNoPenalty w words all)
      (hyphens w.word points points_are))
      (AreSplit-no_penalty words rest (All-tail HasNoPenalty w words all) rest_are))

-- ---- where the pieces of a text stand, from the first one on

module _ (splitter : Splitter) (limit : ℕ) (text : List ℕ) (at word_end width : ℕ)
    (word : IsFirstWord splitter limit text at word_end width) (end : ℕ) (from : word_end ≤ end)
    (within : end ≤ length text) (blanks : BlanksBetween text word_end end) where
  -- the first piece, and those after it
  pub word-stands : (end < length text → is_blank (get_or text end 0) ≡ false)
      → stand_from at (pieces_from_place splitter limit text at)
      ≡ record { word_end = word_end; end = end; width = width }
      ∷ stand_from end (pieces_from_place splitter limit text end)
  word-stands stops =
      let n = length (slice_range text at word_end) in
      let one : at + n ≡ word_end = grind (arith, length-slice) in
      let both : at + n + (length (slice_range text word_end end)) ≡ end =
      omega (arith, one, length-slice text word_end end within, from) in search (rules, arith)

  -- a character ends after the blanks
  pub blanks-end : IsUtf8 text → IsCharBoundary text end
  blanks-end utf8 = elim (cases_lt word_end end) [
    | inr none ↦ grind arith
    | inl some ↦ grind (arith, IsCharBoundary-after_blank, eqb-true)
  ]
