-- The pieces of broken words: their texts, their widths, and that they tile their word.
use Rattle.textwrap_text.proofs.Common.{Bool, chars_from_encodes, encode_utf8_all, take-append-drop}
use Rattle.textwrap_text.proofs.Common.{append-nil, encodes-append, flat_map-append, IsCharBoundary}
use Rattle.textwrap_text.proofs.Common.{append_assoc, chars-append, encodes-chars, sum_by-append, ℕ}
use Rattle.textwrap_text.proofs.Common.{All-cons, characters, IsUtf8-take, sum_by-cons, units_width}
use Rattle.textwrap_text.proofs.Common.{chars-nil, false≢true, text_width, unit_width, visible_of}
use Rattle.textwrap_text.proofs.Common.{All-head, All-tail, cond_both, IsUtf8, ltb-false, nat_tests}
use Rattle.textwrap_text.proofs.Common.{All-nil, columns, flat_map, length, List, TextUnit, Visible}
use Rattle.textwrap_text.proofs.Common.{[], arith, cond, false, lt-ltb, rules, subst, sum_by, units}
use Rattle.textwrap_text.proofs.Common.{All, drop, map, refl, sym, take, true, ◌++◌, ◌<◌, ◌∙◌, ◌∷◌}
use Rattle.textwrap_text.proofs.Common.{ap, ⊤, ◌≡◌, ◌≢◌, ◌≤◌}
use Rattle.textwrap_text.proofs.Units.Texts.{units-part, units-tile, units_width-is}
use Rattle.std.{proofs.Common.ltb, specs.Prelude.chars}
use Rattle.textwrap_words.proofs.Common.{append_cancel_right, broken_word, IsCharBoundary-from_drop}
use Rattle.textwrap_words.proofs.Common.{broken_pieces, broken_texts, column_characters, units_text}
use Rattle.textwrap_words.proofs.Common.{broken_units, broken_words, piece, pieces_with, utf8-front}
use Rattle.textwrap_words.proofs.Common.{IsKept, tile_of, tiled, utf8-back, WordText}
use Rattle.textwrap_words.proofs.Word.{Ahead.EndsHere, Words.All-each}
use Rattle.textwrap_words.proofs.Word.Breaking.{AreBroken-exists, AreBroken-unique, parts_after-is}
use Rattle.textwrap_words.proofs.Word.Breaking.{column_units, left_units, taken-left, taken_units}
use Rattle.textwrap_words.proofs.Word.Breaking.{IsOwn, parts-own, single}
use Rattle.textwrap_words.proofs.Word.Words.{EndsInBlanks, HasNoPenalty, IsMeasured, no_blanks}

-- ---- the texts of the pieces of a word

texts-flat : (parts : List (List TextUnit))
    → flat_map (λ text. text) (map units_text parts) ≡ units_text (flat_map (λ part. part) parts)
texts-flat [] = refl
texts-flat (part ∷ parts) = grind (arith, flat_map-append, encodes-append, texts-flat parts)

pub units_text-chars : (text : List ℕ) → IsUtf8 text → units_text (units (chars text)) ≡ text
units_text-chars text utf8 = ap encode_utf8_all (units-tile (chars text)) ∙ encodes-chars text utf8

pub broken_texts-tile : (limit : ℕ) (text : List ℕ) → IsUtf8 text
    → flat_map (λ t. t) (broken_texts limit text) ≡ text
broken_texts-tile limit text utf8 = grind (arith, texts-flat, AreBroken-exists, units_text-chars)

pub broken_texts-nil : (limit : ℕ) → broken_texts limit [] ≡ []
broken_texts-nil limit = ap (λ cs. map units_text (broken_units limit (units cs))) chars-nil

pub broken_texts-some : (limit : ℕ) (text : List ℕ) → IsUtf8 text → text ≢ []
    → broken_texts limit text ≢ []
broken_texts-some limit text utf8 some e =
    some (sym (broken_texts-tile limit text utf8) ∙ ap (λ ts. flat_map (λ t. t) ts) e)

-- the texts of the parts before a place where the first piece ends
broken-first : (limit : ℕ) (us vs : List TextUnit) → us ≢ [] → left_units limit 0 us ≡ vs
    → broken_units limit us ≡ taken_units limit 0 us ∷ broken_units limit vs
broken-first limit [] vs some e = absurd (some refl)
broken-first limit (u ∷ us) vs some e = grind (arith, parts_after-is)

-- the first piece that a reader found is the first of the pieces
pub record IsFirstPiece (limit : ℕ) (text : List ℕ) (len width : ℕ) : Type 0 where
  pub first : broken_texts limit text ≡ take len text ∷ broken_texts limit (drop len text)
  pub wide : width ≡ text_width (take len text)
  pub rest : IsUtf8 (drop len text)
  pub boundary : IsCharBoundary text len

pub IsFirstPiece-found : (limit : ℕ) (text : List ℕ) (len width : ℕ) → IsUtf8 text → text ≢ []
    → len ≤ length text → IsUtf8 (drop len text)
    → EndsHere limit (chars text) width (units (chars (drop len text)))
    → IsFirstPiece limit text len width
IsFirstPiece-found limit text len width utf8 some within rest_utf8 found =
    let us = units (chars text) in
    let part = taken_units limit 0 us in
    let rest = units (chars (drop len text)) in
    let boundary = IsCharBoundary-from_drop text len within rest_utf8 in
    let front_utf8 = IsUtf8-take text len utf8 boundary in
    let split : us ≡ part ++ rest = sym (taken-left limit 0 us)
    ∙ ap (λ vs. part ++ vs) found.leaves in
    let both : chars (take len text) ++ chars (drop len text) ≡ flat_map characters part ++ chars
    (drop len text) = sym (chars-append (take len text) (drop len text) front_utf8)
    ∙ ap chars (take-append-drop len text) ∙ sym (units-tile (chars text))
    ∙ ap (λ vs. flat_map characters vs) split ∙ flat_map-append characters part rest
    ∙ ap (λ ds. flat_map characters part ++ ds) (units-tile (chars (drop len text))) in
    let front : chars (take len text) ≡ flat_map characters part =
    append_cancel_right (chars (take len text)) (flat_map characters part)
    (chars (drop len text)) both in
    let own : units (chars (take len text)) ≡ part = ap units front
    ∙ units-part (chars text) part rest split in
    let text_is : units_text part ≡ take len text = ap encode_utf8_all (sym front)
    ∙ encodes-chars (take len text) front_utf8 in
    record {
      first = ap (map units_text)
          (broken-first limit us rest (grind (arith, units_text-chars)) found.leaves)
          ∙ ap (λ t. t ∷ broken_texts limit (drop len text)) text_is;
      wide = sym found.wide ∙ sym (units_width-is part)
          ∙ ap (λ vs. sum_by columns (flat_map visible_of vs)) (sym own);
      rest = rest_utf8;
      boundary = boundary;
    }

-- ---- the pieces as words

pub pieces_with-more : (whitespace penalty text : List ℕ) (texts : List (List ℕ)) → texts ≢ []
    → pieces_with whitespace penalty (text ∷ texts) ≡ piece text [] [] ∷ pieces_with whitespace
    penalty texts
pieces_with-more whitespace penalty text [] some = absurd (some refl)
pieces_with-more whitespace penalty text (next ∷ texts) some = refl

pub pieces_with-texts : (whitespace penalty : List ℕ) (texts : List (List ℕ))
    → flat_map (λ w. w.word) (pieces_with whitespace penalty texts) ≡ flat_map (λ text. text) texts
pieces_with-texts whitespace penalty [] = refl
pieces_with-texts whitespace penalty (text ∷ []) = refl
pieces_with-texts whitespace penalty (text ∷ next ∷ texts) =
    ap (λ ts. text ++ ts) (pieces_with-texts whitespace penalty (next ∷ texts))

pub tiled-pieces_with : (whitespace penalty : List ℕ) (texts : List (List ℕ)) → texts ≢ []
    → tiled (pieces_with whitespace penalty texts) ≡ flat_map (λ text. text) texts ++ whitespace
tiled-pieces_with whitespace penalty [] some = absurd (some refl)
tiled-pieces_with whitespace penalty (text ∷ []) some = simp append-nil
tiled-pieces_with whitespace penalty (text ∷ next ∷ texts) some =
    rw (append-nil text, tiled-pieces_with whitespace penalty (next ∷ texts) (λ e. cc))
    (sym (append_assoc text (flat_map (λ t. t) (next ∷ texts)) whitespace))

-- ---- tiling

pub tiled-broken_pieces : (limit : ℕ) (w : WordText) → IsUtf8 w.word → w.word ≢ []
    → tiled (broken_pieces limit w) ≡ tile_of w
tiled-broken_pieces limit w utf8 some =
    search (tiled-pieces_with, broken_texts-some, broken_texts-tile)

tiled-broken_word : (limit : ℕ) (w : WordText) → IsUtf8 w.word → (limit < w.width → w.word ≢ [])
    → tiled (broken_word limit w) ≡ tile_of w
tiled-broken_word limit w utf8 some = grind (arith, tiled-broken_pieces, append-nil)

pub tiled-broken_words : (limit : ℕ) (words : List WordText) → All (λ w. IsUtf8 w.word) words
    → All (λ w. limit < w.width → w.word ≢ []) words
    → tiled (broken_words limit words) ≡ tiled words
tiled-broken_words limit [] utf8 some = refl
tiled-broken_words limit (w ∷ words) utf8 some =
    let first = tiled-broken_word limit w (All-head (λ v. IsUtf8 v.word) w words utf8)
    (All-head (λ v. limit < v.width → v.word ≢ []) w words some) in
    rw (
      flat_map-append tile_of (broken_word limit w) (broken_words limit words),
      first,
      tiled-broken_words limit words (All-tail (λ v. IsUtf8 v.word) w words utf8)
          (All-tail (λ v. limit < v.width → v.word ≢ []) w words some),
    )

-- ---- the texts of broken pieces

texts-utf8 : (parts : List (List TextUnit)) → IsUtf8 (units_text (flat_map (λ part. part) parts))
    → All IsUtf8 (map units_text parts)
texts-utf8 [] u = All-nil IsUtf8
texts-utf8 (part ∷ parts) u =
    let rest = flat_map (λ p. p) parts in
    let whole = subst IsUtf8 (ap encode_utf8_all (flat_map-append characters part rest)) u in
    All-cons IsUtf8 (units_text part) (map units_text parts)
    (utf8-front (flat_map characters part) (flat_map characters rest) whole)
    (texts-utf8 parts (utf8-back (flat_map characters part) (flat_map characters rest) whole))

pub broken_texts-utf8 : (limit : ℕ) (text : List ℕ) → IsUtf8 text
    → All IsUtf8 (broken_texts limit text)
broken_texts-utf8 limit text utf8 = grind (arith, texts-utf8, AreBroken-exists, units_text-chars)

-- ---- the pieces as words

-- what a piece has because of its text, all pieces have: P of the piece follows from Q of its text
pub pieces_with-all : (P : WordText → Type 0) (Q : List ℕ → Type 0) (whitespace penalty : List ℕ)
    → ((text : List ℕ) → Q text → P (piece text [] []))
    → ((text : List ℕ) → Q text → P (piece text whitespace penalty))
    → (texts : List (List ℕ)) → All Q texts → All P (pieces_with whitespace penalty texts)
pieces_with-all P Q whitespace penalty inner final [] all = All-nil P
pieces_with-all P Q whitespace penalty inner final (text ∷ []) all =
    All-cons P (piece text whitespace penalty) [] (final text (All-head Q text [] all)) (All-nil P)
pieces_with-all P Q whitespace penalty inner final (text ∷ next ∷ texts) all =
    grind (
      arith,
      All-tail,
      All-cons,
      All-head,
      pieces_with-all P Q whitespace penalty inner final (next ∷ texts) (All-tail Q text (next ∷ texts) all),
    )

broken_word-measured : (limit : ℕ) (w : WordText) → IsMeasured w → (b : Bool)
    → All IsMeasured (cond b (broken_pieces limit w) (w ∷ []))
broken_word-measured limit w measured true =
    let of_text : (whitespace penalty text : List ℕ) → EndsInBlanks (piece [] whitespace penalty)
    → IsUtf8 text → IsMeasured (piece text whitespace penalty) = grind arith in
    pieces_with-all IsMeasured IsUtf8 w.whitespace w.penalty
    (λ text. of_text [] [] text (record { blanks = no_blanks; none = λ _. refl }))
    (λ text. of_text w.whitespace w.penalty text
    (record { blanks = measured.ending.blanks; none = measured.ending.none }))
    (broken_texts limit w.word) (broken_texts-utf8 limit w.word measured.utf8)
broken_word-measured limit w measured false = All-cons IsMeasured w [] measured (All-nil IsMeasured)

pub broken_words-measured : (limit : ℕ) (words : List WordText) → All IsMeasured words
    → All IsMeasured (broken_words limit words)
broken_words-measured limit = search (rules, arith, All-each, broken_word-measured)

broken_word-no_penalty : (limit : ℕ) (w : WordText) → HasNoPenalty w → (b : Bool)
    → All HasNoPenalty (cond b (broken_pieces limit w) (w ∷ []))
broken_word-no_penalty limit w none true =
    pieces_with-all HasNoPenalty (λ _. ⊤) w.whitespace w.penalty (λ _ _. refl) (λ _ _. none)
    (broken_texts limit w.word) (λ k d lt. tt)
broken_word-no_penalty limit w none false = All-cons HasNoPenalty w [] none (All-nil HasNoPenalty)

pub broken_words-no_penalty : (limit : ℕ) (words : List WordText) → All HasNoPenalty words
    → All HasNoPenalty (broken_words limit words)
broken_words-no_penalty limit = search (rules, arith, All-each, broken_word-no_penalty)

-- ---- a text within the limit is one piece, and a word that is broken goes on as its rest does

units-narrow : (limit : ℕ) (us : List TextUnit) → us ≢ [] → units_width us ≤ limit
    → broken_units limit us ≡ us ∷ []
units-narrow limit us some within = sym (AreBroken-unique limit us (us ∷ []) (record {
  tiles = append-nil us;
  nonempty = All-cons (λ part. part ≢ []) us [] some (All-nil (λ part. part ≢ []));
  kept = All-cons (IsKept limit) us []
      (λ before after c is first. omega (
        arith,
        within,
        ap units_width is,
        sum_by-append unit_width before (Visible c ∷ after),
        sum_by-cons unit_width (Visible c) after,
      ))
      (All-nil (IsKept limit));
  full = tt;
}))

pub broken_texts-narrow : (limit : ℕ) (text : List ℕ) → IsUtf8 text → text ≢ []
    → text_width text ≤ limit → broken_texts limit text ≡ text ∷ []
broken_texts-narrow limit text utf8 some within =
    grind (arith, units-narrow, units_width-is, units_text-chars)

-- the pieces of a word, whether it is wider than the limit or not
pub broken_word-texts : (limit : ℕ) (word whitespace : List ℕ) → IsUtf8 word → word ≢ []
    → pieces_with whitespace [] (broken_texts limit word)
    ≡ broken_word limit (piece word whitespace [])
broken_word-texts limit word whitespace utf8 some =
    grind (arith, cond_both, broken_texts-narrow, ltb-false)

-- a word that is wider than the limit: its first piece, and those of the rest
pub broken_word-front : (limit : ℕ) (word front rest whitespace : List ℕ) → IsUtf8 rest → rest ≢ []
    → limit < text_width word → broken_texts limit word ≡ front ∷ broken_texts limit rest
    → broken_word limit (piece word whitespace [])
    ≡ piece front [] [] ∷ broken_word limit (piece rest whitespace [])
broken_word-front limit word front rest whitespace utf8 some wide texts =
    grind (arith, lt-ltb, broken_word-texts)

-- ---- a part that is wider than the limit

module _ (limit : ℕ) where
  -- ---- the pieces of words

  abbrev IsTightText : List ℕ → Type 0
  IsTightText text = limit < text_width text → length (column_characters text) ≡ 1

  part-tight : (part : List TextUnit) → IsKept limit part → IsUtf8 (units_text part) → IsOwn part
      → IsTightText (units_text part)
  part-tight part kept utf8 own wide =
      let characters_are : units (chars (units_text part)) ≡ part =
      grind (arith, chars_from_encodes) in
      let width : text_width (units_text part) ≡ units_width part = grind (arith, units_width-is) in
      ap (λ us. length (column_units us)) characters_are
      ∙ single limit [] part kept refl (omega (arith, wide, width))

  broken_texts-tight : (text : List ℕ) → IsUtf8 text → All IsTightText (broken_texts limit text)
  broken_texts-tight text utf8 =
      let us = units (chars text) in
      let parts = broken_units limit us in
      let broken = AreBroken-exists limit us in
      let texts = broken_texts-utf8 limit text utf8 in
      parts-tight parts broken.kept texts (parts-own (chars text) parts broken.tiles)
    where
      parts-tight : (parts : List (List TextUnit)) → All (IsKept limit) parts
          → All IsUtf8 (map units_text parts) → All IsOwn parts
          → All IsTightText (map units_text parts)
      parts-tight [] kept utf8 own = All-nil IsTightText
      parts-tight (part ∷ parts) kept utf8 own =
          All-cons IsTightText (units_text part) (map units_text parts)
          (search (part-tight, All-head))
          (parts-tight parts (All-tail (IsKept limit) part parts kept)
          (All-tail IsUtf8 (units_text part) (map units_text parts) utf8)
          (All-tail IsOwn part parts own))

  -- a word that is wider than the limit has one character that takes columns
  abbrev pub IsTight : WordText → Type 0
  IsTight w = limit < w.width → length (column_characters w.word) ≡ 1

  broken_word-tight : (w : WordText) → IsUtf8 w.word → (b : Bool) → ltb limit w.width ≡ b
      → All IsTight (cond b (broken_pieces limit w) (w ∷ []))
  broken_word-tight w utf8 true wide =
      pieces_with-all IsTight IsTightText w.whitespace w.penalty (λ _ tight. tight)
      (λ _ tight. tight) (broken_texts limit w.word) (broken_texts-tight w.word utf8)
  broken_word-tight w utf8 false fits =
      All-cons IsTight w [] (λ wide. absurd (false≢true (sym fits ∙ ltb_wide limit w.width wide)))
      (All-nil IsTight)
    where
      ltb_wide : (a b : ℕ) → a < b → ltb a b ≡ true
      ltb_wide a b less = grind (arith, nat_tests, less)

  pub broken_words-tight : (words : List WordText) → All IsMeasured words
      → All IsTight (broken_words limit words)
  broken_words-tight = All-each IsMeasured IsTight (broken_word limit)
      (λ w measured. broken_word-tight w measured.utf8 (ltb limit w.width) refl)
