-- The pieces of a text from a place on, and the first of them, where the reader stopped.
use Rattle.textwrap_text.proofs.Common.{arith, IsCharBoundary, IsUtf8-between, without_final_blanks}
use Rattle.textwrap_text.proofs.Common.{get_or-drop, get_or-take, IsUtf8, length-drop, slice_range}
use Rattle.textwrap_text.proofs.Common.{drop-drop, take-take, text_width, trimmed_len, true≢false}
use Rattle.textwrap_text.proofs.Common.{cases_lt, false, get_or, is_blank, le-ltb, length, subst, ℕ}
use Rattle.textwrap_text.proofs.Common.{Bool, drop, inl, inr, List, map, sym, take, true, ◌++◌, ◌+◌}
use Rattle.textwrap_text.proofs.Common.{[], ap, ◌-◌, ◌<◌, ◌∙◌, ◌∷◌, ◌≡◌, ◌≢◌, ◌≤◌}
use Rattle.textwrap_words.proofs.Common.{AreFinalBlanks, is_stop, IsCharBoundary-end, IsFirstWithin}
use Rattle.textwrap_words.proofs.Common.{broken_texts, broken_words, is_piece_cut, length-slice}
use Rattle.textwrap_words.proofs.Common.{broken_word, IsFirstStop, IsFirstWord, IsPart, pieces_from}
use Rattle.textwrap_words.proofs.Common.{drop-take, IsPartWord, slice-nil, Splitter, WordText}
use Rattle.textwrap_words.proofs.Common.{is_point, or-true, or_parts, parts_by, piece, word_of}
use Rattle.textwrap_words.proofs.Word.{Parts.parts_by-front, Splitting.point-hyphen}
use Rattle.textwrap_words.proofs.Word.BrokenPieces.{broken_texts-narrow, broken_word-front}
use Rattle.textwrap_words.proofs.Word.BrokenPieces.{broken_texts-nil, broken_word-texts}
use Rattle.textwrap_words.proofs.Word.SplitParts.{blanks-part, part-of_word, point-none, word-part}
use Rattle.textwrap_words.proofs.Word.Texts.{trimmed-blank, trimmed-le, trimmed-other, trimmed-past}
use Rattle.textwrap_words.proofs.Word.Words.{text_width-nil}

-- ---- the pieces of a text from a place on: those of the part that begins there, and those from
-- its end on; and where the first of them stops inside the part

-- a slice whose final blanks are known, as a word
pub word_of-slice : (text : List ℕ) (at word_end end : ℕ) → end ≤ length text
    → AreFinalBlanks text at word_end end
    → word_of (slice_range text at end)
    ≡ piece (slice_range text at word_end) (slice_range text word_end end) []
word_of-slice text at word_end end within are =
    let rest = drop at text in
    let n = end - at in
    let m = word_end - at in
    let slice = slice_range text at end in
    let len : length slice ≡ n = length-slice text at end within in
    let byte : (k : ℕ) → k < n → get_or slice k 0 ≡ get_or text (at + k) 0 =
    λ k below. get_or-take n rest k 0 below ∙ get_or-drop at text k 0 in
    let most : trimmed_len slice ≤ m = trimmed-le slice m (grind arith) in
    let trimmed : trimmed_len slice ≡ m = elim (cases_lt 0 m) [
      | inr none ↦ omega (arith, none, most)
      | inl some ↦
          let last : at + (m - 1) ≡ word_end - 1 = omega (arith, some) in
          grind (arith, trimmed-past)
    ] in
    let up_to = are.up_to in
    let word : without_final_blanks slice ≡ slice_range text at word_end =
    ap (λ k. take k slice) trimmed ∙ take-take m n rest (omega (arith, up_to)) in
    let all : m + (end - word_end) ≡ n = omega (arith, are.from, up_to) in
    grind (arith, drop-take, drop-drop)

module _ (test : ℕ → Bool) (text : List ℕ) where
  -- the first of the parts from a place on
  pub parts-front : (at end : ℕ) → IsPart test text at end
      → parts_by test at (drop at text) ≡ slice_range text at end ∷ parts_by test end (drop end text)
  parts-front at end part =
      let n = end - at in
      let some = part.some in
      let within = part.within in
      let place : at + n ≡ end = omega (arith, some) in
      let left = length-drop at text in
      rw (drop-drop n at text, place)
      at (parts_by-front test (drop at text) at n (omega (arith, some)) (omega (arith, left, within))
      (λ k first below. part.uncut (at + k) (omega (arith, first)) (omega (arith, below)))
      (λ inside. ap test place ∙ part.ends (omega (arith, inside, left, some))))

-- one part, whose final blanks are known
module _ {test : ℕ → Bool} {text : List ℕ} {at word_end end : ℕ} (limit : ℕ)
    (part : IsPart test text at end) (are : AreFinalBlanks text at word_end end) where
  abbrev pub whole : WordText
  whole = piece (slice_range text at word_end) (slice_range text word_end end) []

  -- the pieces of the part, and those from its end on
  pieces-part : pieces_from test limit text at
      ≡ broken_word limit whole ++ pieces_from test limit text end
  pieces-part = ap (λ ps. broken_words limit (map word_of ps)) (parts-front test text at end part)
      ∙ ap (λ w. broken_word limit w ++ pieces_from test limit text end)
      (word_of-slice text at word_end end part.within are)

  -- the part is one piece
  pieces-whole : broken_word limit whole ≡ whole ∷ []
      → pieces_from test limit text at ≡ whole ∷ pieces_from test limit text end
  pieces-whole one = pieces-part ∙ ap (λ ws. ws ++ pieces_from test limit text end) one

-- the first piece of a word that is wider than the limit, and those from where it stops
pieces-stop : {test : ℕ → Bool} {text : List ℕ} {at word_end end : ℕ} (limit stop : ℕ)
    → IsPart test text at end → AreFinalBlanks text at word_end end → at < stop → stop < word_end
    → IsUtf8 (slice_range text stop word_end) → limit < text_width (slice_range text at word_end)
    → broken_texts limit (slice_range text at word_end)
    ≡ slice_range text at stop ∷ broken_texts limit (slice_range text stop word_end)
    → pieces_from test limit text at
    ≡ piece (slice_range text at stop) [] [] ∷ pieces_from test limit text stop
pieces-stop {test} {text} {at} {word_end} {end} limit stop part are after inside utf8 wide texts =
    let rest = slice_range text stop word_end in
    let within : word_end ≤ length text = omega (arith, part.within, are.up_to) in
    let some : rest ≢ [] = λ none.
    omega (arith, ap length none, length-slice text stop word_end within, inside) in
    let left : IsPart test text stop end = record {
      some = omega (arith, inside, are.up_to);
      within = part.within;
      uncut = λ k past below. part.uncut k (omega (arith, after, past)) below;
      ends = part.ends;
    } in
    let left_blanks : AreFinalBlanks text stop word_end end = record {
      from = omega (arith, inside);
      up_to = are.up_to;
      other = λ _. are.other (omega (arith, after, inside));
      blanks = are.blanks;
    } in
    rw (
      pieces-part limit part are,
      pieces-part limit left left_blanks,
      broken_word-front limit
          (slice_range text at word_end) (slice_range text at stop) rest (slice_range text word_end end)
          utf8 some wide texts,
    )

-- ---- the pieces of a text from a place on, where the first part of the text up to the end of a
-- word is known

-- the first piece from a place on goes up to `word_end`, and its blanks up to `end`
abbrev pub BeginsWith : (ℕ → Bool) → ℕ → List ℕ → ℕ → ℕ → ℕ → ℕ → Type 0
BeginsWith test limit text at word_end end width = pieces_from test limit text at
    ≡ record {
      word = slice_range text at word_end;
      whitespace = slice_range text word_end end;
      penalty = [];
      width = width;
    }
    ∷ pieces_from test limit text end

same-piece : (word whitespace : List ℕ) (width : ℕ) → width ≡ text_width word
    → piece word whitespace []
    ≡ record { word = word; whitespace = whitespace; penalty = []; width = width }
same-piece word whitespace width wide = grind arith

-- there is no word before the blanks
blanks-alone : {test : ℕ → Bool} {text : List ℕ} {at end : ℕ} (limit : ℕ) → IsPart test text at end
    → AreFinalBlanks text at at end → BeginsWith test limit text at at end 0
blanks-alone {test} {text} {at} limit part are =
    grind (arith, slice-nil, text_width-nil, pieces-whole, le-ltb, same-piece)

module _ {test stops : ℕ → Bool} {limit : ℕ} {text : List ℕ} (utf8 : IsUtf8 text)
    {at last place width : ℕ} (start : IsCharBoundary text at)
    (r : IsFirstStop stops limit text at last place width) (inside : at < last) {end : ℕ}
    (part : IsPart test text at end) (are : AreFinalBlanks text at r.stop end) where
  -- the part is one piece
  part-ends : r.stop ≡ place → BeginsWith test limit text at place end width
  part-ends same =
      grind (
        arith,
        length-slice,
        slice-nil,
        broken_texts-nil,
        IsUtf8-between,
        pieces-whole,
        broken_word-texts,
        same-piece,
      )

  -- the piece stops inside the part
  part-stops : place < r.stop → BeginsWith test limit text at place place width
  part-stops later =
      let v = r.stop in
      let rest = slice_range text place v in
      let rest_utf8 = IsUtf8-between text place v utf8 (omega (arith, later)) r.boundary r.cut in
      let whole_utf8 = IsUtf8-between text at v utf8 (omega (arith, r.from, later)) start r.cut in
      let texts = r.first inside in
      let full : slice_range text at v ≢ [] = λ none.
      omega (arith, r.from, later, length-slice text at v r.cut.0, ap length none) in
      let rest_some : rest ≢ [] = λ none.
      omega (arith, later, length-slice text place v r.cut.0, ap length none) in
      let past : limit < text_width (slice_range text at v) = grind (arith, broken_texts-narrow) in
      rw (slice-nil text place, r.wide)
      (pieces-stop limit place part are (r.some inside) later rest_utf8 past texts)

-- ---- the first piece of a word with its blanks, where the reader stopped. The word may have
-- blanks inside

module _ (splitter : Splitter) (limit : ℕ) (text : List ℕ) (utf8 : IsUtf8 text) (at : ℕ)
    (start : IsCharBoundary text at) (before : at ≤ trimmed_len text) (inside : at < length text) where
  abbrev test : ℕ → Bool
  test = is_point splitter text

  -- a part ends at a point, where no blanks stand before
  point-part : (place : ℕ) → at < place → place < length text
      → ((k : ℕ) → at < k → k < place → test k ≡ false) → test place ≡ true
      → IsPart test text at place × AreFinalBlanks text at place place
  point-part place some below uncut is = grind (arith, point-hyphen)

  -- the last part ends with the blanks
  last-part : ((k : ℕ) → at < k → k < trimmed_len text → test k ≡ false)
      → IsPart test text at (length text) × AreFinalBlanks text at (trimmed_len text) (length text)
  last-part uncut = grind (arith, cases_lt, point-none, trimmed-blank, trimmed-other)

  pub first-within : (place width end : ℕ)
      → IsFirstStop (is_stop false splitter text) limit text at (trimmed_len text) place width
      → (place ≡ trimmed_len text → end ≡ length text) → (place < trimmed_len text → end ≡ place)
      → IsFirstWithin splitter limit text at (record { word_end = place; end = end; width = width })
  first-within place width end r whole inner = elim (cases_lt place (trimmed_len text)) [
    | inl early ↦
        let later : at < trimmed_len text = omega (arith, r.from, early) in
        rw (inner early) (record {
          from = r.from;
          up_to = omega arith;
          boundary = r.boundary;
          before_blanks = λ _. omega (arith, early);
          first = elim (cases_lt place r.stop) [
            | inr most ↦
                let same : r.stop ≡ place = omega (arith, most, r.up_to) in
                let part = point-part r.stop (omega (arith, same, r.some later)) (omega (arith, same, early)) r.uncut
                (r.ends (omega (arith, same, early))) in
                rw same at (part-ends utf8 start r later part.0 part.1 same)
            | inl sooner ↦ elim (cases_lt r.stop (trimmed_len text)) [
              | inl before_end ↦
                  let part = point-part r.stop (omega (arith, r.from, sooner)) (omega (arith, before_end)) r.uncut
                  (r.ends before_end) in
                  part-stops utf8 start r later part.0 part.1 sooner
              | inr none ↦
                  let last : trimmed_len text ≡ r.stop = omega (arith, none, r.within) in
                  let part = last-part (λ k past below. r.uncut k past (omega (arith, last, below))) in
                  part-stops utf8 start r later part.0 (rw last at part.1) sooner
            ]
          ];
        })
    | inr most ↦
        let here : place ≡ trimmed_len text = omega (arith, most, r.up_to, r.within) in
        let same : r.stop ≡ place = omega (arith, here, r.up_to, r.within) in
        let part = last-part (λ k past below. r.uncut k past (omega (arith, same, here, below))) in
        rw (whole here) (record {
          from = r.from;
          up_to = r.boundary.0;
          boundary = IsCharBoundary-end text;
          before_blanks = λ more. absurd (omega (arith, more));
          first = elim (cases_lt at (trimmed_len text)) [
            | inl later ↦
                part-ends utf8 start r later part.0
                (subst (λ k. AreFinalBlanks text at k (length text)) (omega (arith, same, here)) part.1) same
            | inr none ↦
                let nothing : at ≡ place = omega (arith, none, here, r.from) in
                let narrow : 0 ≡ width = sym (r.wide ∙ ap (λ k. text_width (slice_range text at k)) (sym nothing)
                ∙ ap text_width (slice-nil text at) ∙ text_width-nil) in
                rw (← nothing, ← narrow) (blanks-alone limit part.0
                (subst (λ k. AreFinalBlanks text at k (length text)) (omega (arith, nothing, here)) part.1))
          ];
        })
  ]

-- ---- the first piece of a text with words between blanks, where the reader stopped

module _ (splitter : Splitter) (limit : ℕ) (text : List ℕ) (utf8 : IsUtf8 text) (at : ℕ)
    (start : IsCharBoundary text at) (inside : at < length text) where
  -- there is no word before the blanks
  pub no-word : is_blank (get_or text at 0) ≡ true → IsFirstWord splitter limit text at at 0
  no-word blank = grind (arith, cases_lt, true≢false, blanks-part, blanks-alone)

  module _ (place width : ℕ)
      (r : IsFirstStop (is_stop true splitter text) limit text at (length text) place width)
      (other : is_blank (get_or text at 0) ≡ false) where
    some : at < r.stop
    some = omega (arith, r.some inside, r.up_to)

    none-at : (k : ℕ) → at < k → k < r.stop
        → (is_blank (get_or text k 0) ≡ false) × (is_point splitter text k ≡ false)
    none-at k past below = or_parts (is_blank (get_or text k 0)) (is_point splitter text k) (r.uncut k past below)

    plain : (k : ℕ) → at ≤ k → k < r.stop → is_blank (get_or text k 0) ≡ false
    plain k from below = grind (arith, cases_lt, none-at)

    word : IsPartWord splitter text at r.stop
    word = grind (arith, plain, none-at, or-true)

    pub first-word : IsFirstWord splitter limit text at place width
    first-word = record {
      from = r.from;
      boundary = r.boundary;
      first = λ end from within blanks ends. elim (cases_lt place r.stop) [
        | inl later ↦
            let part = part-of_word splitter text at r.stop word in
            let same : place ≡ end = grind (arith, cases_lt, true≢false, plain) in
            subst (λ k. BeginsWith (is_piece_cut splitter text) limit text at place k width) same
            (part-stops utf8 start r inside part.1 part.2 later)
        | inr most ↦
            let same : r.stop ≡ place = omega (arith, most, r.up_to) in
            let part = word-part splitter text at r.stop end word (omega (arith, same, from)) within
            (λ k past below. blanks k (omega (arith, same, past)) below) ends in
            part-ends utf8 start r inside part.0 part.1 same
      ];
    }
