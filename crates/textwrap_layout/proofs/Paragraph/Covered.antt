-- What the words of a line cover: words and lines of words, cut in two.
use Rattle.textwrap_text.proofs.Common.{IsCharBoundary-from_take, take-append-drop, IsCharBoundary}
use Rattle.textwrap_text.proofs.Common.{IsUtf8-append, length-append, append_assoc, AreCutApart, []}
use Rattle.textwrap_text.proofs.Common.{IsUtf8-drop, StartsWith, append-nil, map-append, and_parts}
use Rattle.textwrap_text.proofs.Common.{take_more, All-head, All-tail, eqb-true, take-map, take_all}
use Rattle.textwrap_text.proofs.Common.{IsUncut, drop_at, take_at, IsUtf8, length, arith, blank, ap}
use Rattle.textwrap_text.proofs.Common.{rules, subst, List, drop, last, refl, take, ◌++◌, All, map}
use Rattle.textwrap_text.proofs.Common.{sym, ◌+◌, ◌-◌, ◌<◌, ◌∙◌, ◌∷◌, ◌≡◌, ◌≢◌, ◌≤◌, ℕ, ⊤}
use Rattle.textwrap_layout.proofs.Common.{IsCharBoundary-from_rest, words_unique, AreWordsOf, tiled}
use Rattle.textwrap_layout.proofs.Common.{IsDivision, word_view, IsGreedy, WordText, drop-map, Word}
use Rattle.textwrap_layout.proofs.Common.{sizes_of, words_of, covered, tile_of, word_of, ByFirstFit}
use Rattle.textwrap_words.proofs.Word.Words.{tiled-words_of, tiled-push, tiled-map}
use Rattle.textwrap_text.proofs.Lists.Parts.{last-append, all-right, all-left, flat}
use Rattle.textwrap_base.proofs.Division.Map.{IsDividedBy-some, IsDivision-whole}

-- ---- what the words of a line cover, and where a text that they tile may be cut

pub covered-push : (ws : List WordText) (w : WordText) → covered (ws ++ w ∷ []) ≡ tiled ws ++ w.word
covered-push [] w = refl
covered-push (v ∷ []) w = ap (λ l. l ++ w.word) (sym (append-nil (tile_of v)))
covered-push (v ∷ u ∷ ws) w = search (rules, append_assoc, covered-push (u ∷ ws) w)

-- a text that begins with words, cut before the last one's whitespace
pub record CutsBeforeWhitespace (text : List ℕ) (words front : List Word)
    (last : Word) : Type 0 where
  pub line : take (length (tiled (map word_view front)) + length last.word.now) text ≡ tiled
      (map word_view front) ++ last.word.now
  pub rest : drop (length (tiled (map word_view front)) + length last.word.now) text
      ≡ last.whitespace.now ++ drop (length (tiled (map word_view words))) text
  pub within : length (tiled (map word_view front)) + length last.word.now ≤ length text
  pub covers : covered (map word_view words) ≡ tiled (map word_view front) ++ last.word.now

pub cuts_before_whitespace : (text : List ℕ) (words front : List Word) (last : Word)
    → words ≡ front ++ last ∷ [] → StartsWith text (tiled (map word_view words))
    → CutsBeforeWhitespace text words front last
cuts_before_whitespace text words front last is starts =
    let views : map word_view words ≡ map word_view front ++ word_view last ∷ [] =
    ap (map word_view) is ∙ map-append word_view front (last ∷ []) in
    let before = tiled (map word_view front) in
    let after = drop (length (tiled (map word_view words))) text in
    let tiles : tiled (map word_view words) ≡ before ++ (last.word.now ++ last.whitespace.now) =
    ap tiled views ∙ tiled-push (map word_view front) (word_view last) in
    let whole : text ≡ (before ++ last.word.now) ++ (last.whitespace.now ++ after) =
    search (rules, arith, take-append-drop, append_assoc) in
    search (rules, length-append, take_at, drop_at, covered-push)

module _ (text : List ℕ) (words front : List Word) (last : Word)
    (cut : CutsBeforeWhitespace text words front last) (utf8 : IsUtf8 text)
    (front_utf8 : IsUtf8 (tiled (map word_view front))) (word_utf8 : IsUtf8 last.word.now) where
  pub IsCharBoundary-cut : IsCharBoundary text
      (length (tiled (map word_view front)) + length last.word.now)
  IsCharBoundary-cut =
      IsCharBoundary-from_take text (length (tiled (map word_view front)) + length last.word.now)
      utf8 cut.within
      (subst IsUtf8 (sym cut.line)
      (IsUtf8-append (tiled (map word_view front)) last.word.now front_utf8 word_utf8))

  IsCharBoundary-past_whitespace : (rest whitespace : List ℕ)
      → rest ≡ drop (length (tiled (map word_view front)) + length last.word.now) text
      → whitespace ≡ last.whitespace.now → IsUtf8 whitespace
      → IsCharBoundary rest (length whitespace)
  IsCharBoundary-past_whitespace rest whitespace is same whitespace_utf8 =
      let after = drop (length (tiled (map word_view words))) text in
      let seam : rest ≡ whitespace ++ after = is ∙ cut.rest ∙ ap (λ l. l ++ after) (sym same) in
      let rest_utf8 : IsUtf8 rest = search (rules, arith, IsUtf8-drop, IsCharBoundary-cut) in
      search (rules, IsCharBoundary-from_take, length-append, take_at)

  -- the text may be cut after the whitespace too
  pub IsCharBoundary-whole : (whitespace : List ℕ) → whitespace ≡ last.whitespace.now
      → IsUtf8 whitespace → IsCharBoundary text
      (length (tiled (map word_view front)) + length last.word.now + length whitespace)
  IsCharBoundary-whole whitespace same whitespace_utf8 =
      search (rules, IsCharBoundary-from_rest, IsCharBoundary-past_whitespace)

-- ---- the words of a line, cut in two: each part has the words of its own text

AreCutApart-back : (parts others : List (List ℕ)) → AreCutApart (parts ++ others)
    → AreCutApart others
AreCutApart-back parts others cut = λ before after left right is.
    cut (parts ++ before) after left right
    (ap (λ l. parts ++ l) is ∙ sym (append_assoc parts before (left ∷ right ∷ after)))

AreWordsOf-chunks : (chunks : List (List ℕ)) (words : List WordText) → words ≡ map word_of chunks
    → All (λ chunk. chunk ≢ []) chunks → All IsUncut chunks → AreCutApart chunks
    → AreWordsOf (tiled words) words
AreWordsOf-chunks chunks words is some uncut cut = search (rules, tiled-map)

some-flat : (chunk : List ℕ) (chunks : List (List ℕ)) → chunk ≢ []
    → 0 < length (flat (chunk ∷ chunks))
some-flat [] chunks some = absurd (some refl)
some-flat (c ∷ chunk) chunks some = omega arith

-- the chunks before others end in a blank
blank-before : (chunk : List ℕ) (chunks : List (List ℕ)) (next : List ℕ) (others : List (List ℕ))
    → All (λ part. part ≢ []) (chunk ∷ chunks)
    → AreCutApart ((chunk ∷ chunks) ++ next ∷ others) → last (flat (chunk ∷ chunks)) ≡ blank
blank-before chunk [] next others some cut = ap last (append-nil chunk)
    ∙ eqb-true (last chunk) 32 (and_parts _ _ (cut [] others chunk next refl)).0
blank-before chunk (more ∷ chunks) next others some cut =
    let rest = All-tail (λ part. part ≢ []) chunk (more ∷ chunks) some in
    last-append chunk (flat (more ∷ chunks))
    (some-flat more chunks (All-head (λ part. part ≢ []) more chunks rest))
    ∙ blank-before more chunks next others rest
    (AreCutApart-back (chunk ∷ []) ((more ∷ chunks) ++ next ∷ others) cut)

pub record AreWordsApart (ws vs : List WordText) : Type 0 where
  pub front : AreWordsOf (tiled ws) ws
  pub back : AreWordsOf (tiled vs) vs
  pub some : ws ≢ [] → 0 < length (tiled ws)
  pub blank_before : ws ≢ [] → vs ≢ [] → last (tiled ws) ≡ blank

pub words_apart : (ws vs : List WordText) (line : List ℕ) → AreWordsOf line (ws ++ vs)
    → AreWordsApart ws vs
words_apart ws vs line (chunks, are, is) =
    let first = take (length ws) chunks in
    let others = drop (length ws) chunks in
    let whole : first ++ others ≡ chunks = take-append-drop (length ws) chunks in
    let first_is : ws ≡ map word_of first = sym (take_at ws vs (length ws) refl)
    ∙ ap (take (length ws)) is ∙ take-map word_of (length ws) chunks in
    let others_is : vs ≡ map word_of others = sym (drop_at ws vs (length ws) refl)
    ∙ ap (drop (length ws)) is ∙ drop-map word_of (length ws) chunks in
    let some : All (λ part. part ≢ []) (first ++ others) = search rules in
    let uncut : All IsUncut (first ++ others) = subst (All IsUncut) (sym whole) are.uncut in
    let cut : AreCutApart (first ++ others) = subst AreCutApart (sym whole) are.cut in
    let some_first = all-left (λ part. part ≢ []) first others some in
    record {
      front = AreWordsOf-chunks first ws first_is some_first (all-left IsUncut first others uncut)
          (search (rules, append_assoc));
      back = AreWordsOf-chunks others vs others_is (all-right (λ part. part ≢ []) first others some)
          (all-right IsUncut first others uncut) (AreCutApart-back first others cut);
      some = λ any. subst (λ l. 0 < length l) (sym (tiled-map first) ∙ ap tiled (sym first_is))
          (some_chunks first some_first (λ none. any (first_is ∙ ap (map word_of) none)));
      blank_before = λ any more. ap last (ap tiled first_is ∙ tiled-map first)
          ∙ blank_chunks first others some_first cut
          (λ none. any (first_is ∙ ap (map word_of) none))
          (λ none. more (others_is ∙ ap (map word_of) none));
    }
  where
    some_chunks : (parts : List (List ℕ)) → All (λ part. part ≢ []) parts → parts ≢ []
        → 0 < length (flat parts)
    some_chunks [] some any = absurd (any refl)
    some_chunks (part ∷ parts) some any =
        some-flat part parts (All-head (λ part. part ≢ []) part parts some)

    blank_chunks : (parts others : List (List ℕ)) → All (λ part. part ≢ []) parts
        → AreCutApart (parts ++ others) → parts ≢ [] → others ≢ [] → last (flat parts) ≡ blank
    blank_chunks [] others some cut any more = absurd (any refl)
    blank_chunks (part ∷ parts) [] some cut any more = absurd (more refl)
    blank_chunks (part ∷ parts) (next ∷ others) some cut any more =
        blank-before part parts next others some cut

-- ---- the lines of a part

-- a text without its last byte
abbrev pub shortened : List ℕ → List ℕ
shortened text = take (length text - 1) text

-- each line but the last ends in a blank, and has the words of its own text
abbrev pub AreLinesApart : List (List WordText) → Type 0
AreLinesApart [] = ⊤
AreLinesApart (line ∷ []) = AreWordsOf (tiled line) line
AreLinesApart (line ∷ next ∷ lines) =
    AreWordsOf (tiled line) line × (tiled line ≡ shortened (tiled line) ++ blank ∷ [])
    × AreLinesApart (next ∷ lines)

lines_apart : (lines : List (List WordText)) → All (λ line. line ≢ []) lines
    → AreWordsOf (tiled (flat lines)) (flat lines) → AreLinesApart lines
lines_apart [] some are = tt
lines_apart (line ∷ []) some are = search (rules, append-nil)
lines_apart (line ∷ next ∷ lines) some are =
    let any = All-head (λ l. l ≢ []) line (next ∷ lines) some in
    let rest = All-tail (λ l. l ≢ []) line (next ∷ lines) some in
    let apart = words_apart line (flat (next ∷ lines)) (tiled (flat (line ∷ next ∷ lines))) are in
    let more : flat (next ∷ lines) ≢ [] =
    not_nil next (flat lines) (All-head (λ l. l ≢ []) next lines rest) in
    search (rules, arith, lines_apart (next ∷ lines) rest apart.back, take_all, take_more)
  where
    not_nil : (ws vs : List WordText) → ws ≢ [] → ws ++ vs ≢ []
    not_nil [] vs some is = some refl
    not_nil (w ∷ ws) vs some is = cc

-- what a greedy division of a part's words says of its lines
pub record IsBroken (part : List ℕ) (lines : List (List WordText)) : Type 0 where
  pub tiles : tiled (flat lines) ≡ part
  pub some : 0 < length lines
  pub apart : AreLinesApart lines

pub apart_from : (words : List WordText) (lines : List (List WordText)) → IsDivision words lines
    → AreWordsOf (tiled words) words → AreLinesApart lines
apart_from [] lines division are = subst AreLinesApart (sym division) are
apart_from (w ∷ words) lines division are = search (rules, lines_apart)

pub IsBroken-greedy : (widths part : List ℕ) (lines : List (List WordText))
    → IsGreedy sizes_of widths (words_of part) lines → IsBroken part lines
IsBroken-greedy widths part lines greedy =
    let division = greedy.admissible.division in
    record {
      tiles = ap tiled (IsDivision-whole (words_of part) lines division) ∙ tiled-words_of part;
      some = IsDividedBy-some sizes_of ByFirstFit widths (words_of part) lines greedy;
      apart = apart_from (words_of part) lines division
          (rw (tiled-words_of part) ((words_unique part (words_of part)).1 refl));
    }
