-- The words of a line, each with the white behind it, from the front on.
use Rattle.textwrap_marks.proofs.Common.{Bool, List, drop, refl, take, true, sym, ◌+◌, ◌<◌, ◌∙◌, ◌∷◌, ◌≡◌}
use Rattle.textwrap_marks.proofs.Common.{behind_spaced, spaced_words, length-drop, SpacedText, cases_Bool}
use Rattle.textwrap_marks.proofs.Common.{prefix_len, nat_tests, is_white, is_ink, length, arith, false, ℕ}
use Rattle.textwrap_marks.{proofs.Common.[], proofs.Common.ap, specs.Words.with_byte}
use Rattle.textwrap_text.proofs.Common.{suc}

pub up : (n : ℕ) → 1 + n ≡ suc n
up n = omega arith

-- the first word of a text, the white behind it, and what follows
abbrev pub word_len : List ℕ → ℕ
word_len text = prefix_len is_ink text

abbrev pub behind_word : List ℕ → List ℕ
behind_word text = drop (word_len text) text

abbrev pub first_spaced : List ℕ → SpacedText
first_spaced text = record {
  word = take (word_len text) text;
  white = take (prefix_len is_white (behind_word text)) (behind_word text);
}

-- white before a word stands by itself
pub before-word : (c x : ℕ) (xs : List ℕ) (w : SpacedText) (later words : List SpacedText)
    → is_white c ≡ true → w.word ≡ x ∷ xs → words ≡ w ∷ later
    → with_byte c words ≡ record { word = []; white = c ∷ [] } ∷ words
before-word c x xs w later words white some is =
    let alone : SpacedText = record { word = []; white = c ∷ [] } in
    ap (with_byte c) is ∙ simp (white, some) (ap (λ l. alone ∷ l) (sym is))

words-first : (c : ℕ) (cs : List ℕ)
    → spaced_words (c ∷ cs) ≡ first_spaced (c ∷ cs) ∷ spaced_words (behind_spaced (c ∷ cs))
words-first c [] = one (is_white c) refl
  where
    one : (w : Bool) → is_white c ≡ w
        → spaced_words (c ∷ []) ≡ first_spaced (c ∷ []) ∷ spaced_words (behind_spaced (c ∷ []))
    one true is = simp (is, up)
    one false is = simp (is, up)
words-first c (d ∷ cs) = more (is_white c) (is_white d) refl refl (words-first d cs)
  where
    more : (w v : Bool) → is_white c ≡ w → is_white d ≡ v
        → spaced_words (d ∷ cs) ≡ first_spaced (d ∷ cs) ∷ spaced_words (behind_spaced (d ∷ cs))
        → with_byte c (spaced_words (d ∷ cs))
        ≡ first_spaced (c ∷ d ∷ cs) ∷ spaced_words (behind_spaced (c ∷ d ∷ cs))
    more true true is next later = ap (with_byte c) later ∙ simp (is, next, up)
    more true false is next later =
        before-word c d (take (word_len cs) cs) (first_spaced (d ∷ cs))
        (spaced_words (behind_spaced (d ∷ cs))) (spaced_words (d ∷ cs)) is (simp (next, up)) later
        ∙ simp (is, next, up)
    more false true is next later = ap (with_byte c) later ∙ simp (is, next, up)
    more false false is next later = ap (with_byte c) later ∙ simp (is, next, up)

pub words-turn : (text : List ℕ) → 0 < length text
    → spaced_words text ≡ first_spaced text ∷ spaced_words (behind_spaced text)
words-turn [] some = absurd (omega (arith, some))
words-turn (c ∷ cs) some = words-first c cs

pub behind-shorter : (text : List ℕ) → 0 < length text → length (behind_spaced text) < length text
behind-shorter [] some = absurd (omega (arith, some))
behind-shorter (c ∷ cs) some = cut (is_white c) refl
  where
    cut : (w : Bool) → is_white c ≡ w → length (behind_spaced (c ∷ cs)) < length (c ∷ cs)
    cut true is = simp (is, up) (omega (arith, length-drop (prefix_len is_white cs) cs))
    cut false is = simp (is, up) (omega (
      arith,
      length-drop (word_len cs) cs,
      length-drop (prefix_len is_white (behind_word cs)) (behind_word cs),
    ))

-- white is ASCII
pub white-small : (c : ℕ) → is_white c ≡ true → c < 128
white-small c white = grind (arith, nat_tests, cases_Bool)
