-- A text that is cut between two words: the words of its parts are its words.
use Rattle.std.proofs.Math.{ListN.drop_of_length-le, Seq.drop-append_seam, Seq.take-append_seam}
use Rattle.std.proofs.lemmas.List.Sums.{prefix_len-le-length, prefix_len_passes, prefix_len_stops}
use Rattle.std.proofs.lemmas.List.{get_or-drop, drop-drop, Sums.prefix_len_is}
use Rattle.textwrap_marks.proofs.Common.{ReflowOptions, behind_spaced, is_comment_at, spaced_words, arith}
use Rattle.textwrap_marks.proofs.Common.{false, subst, Bool, List, drop, refl, take, true, ◌++◌, ◌==◌, []}
use Rattle.textwrap_marks.proofs.Common.{length-drop, SpacedText, cases_Bool, prefix_len, true≢false, sym}
use Rattle.textwrap_marks.proofs.Common.{nat_tests, AreWhite, is_white, IsUtf8, get_or, is_ink, length, ℕ}
use Rattle.textwrap_marks.proofs.Common.{◌+◌, ◌-◌, ◌<◌, ◌∙◌, ◌∷◌, ◌≡◌, ◌≤◌, ap}
use Rattle.textwrap_marks.proofs.SpacedLemmas.{behind-shorter, first_spaced, before-word, behind_word, up}
use Rattle.textwrap_marks.proofs.SpacedLemmas.{white-small, words-turn, word_len}
use Rattle.textwrap_marks.specs.Signs.{words_before_last, first_word, is_rule, last_of}
use Rattle.textwrap_marks.specs.Words.{spaced_text, has_bytes, with_byte}
use Rattle.textwrap_text.proofs.Common.{IsCharBoundary-after_ascii, IsCharBoundary-start, IsCharBoundary}
use Rattle.textwrap_text.proofs.Common.{length-append, append-nil, drop_all, take_all, cond, zero, suc}

-- behind white, and before what is none; or at an end of the text
abbrev pub IsWordCut : List ℕ → ℕ → Type 0
IsWordCut text at = 0 < at → at < length text
    → (is_white (get_or text (at - 1) 0) ≡ true) × (is_white (get_or text at 0) ≡ false)

-- one byte more before some words leaves those behind them
with-more : (c : ℕ) (ws more : List SpacedText) → 0 < length ws
    → with_byte c (ws ++ more) ≡ with_byte c ws ++ more
with-more c [] more some = absurd (omega (arith, some))
with-more c (w ∷ ws) more some = split (is_white c) refl w.word refl
  where
    split : (t : Bool) → is_white c ≡ t → (word : List ℕ) → w.word ≡ word
        → with_byte c (w ∷ ws ++ more) ≡ with_byte c (w ∷ ws) ++ more
    split false is word w_is = simp is
    split true is [] w_is = simp (is, w_is)
    split true is (d ∷ word) w_is = simp (is, w_is)

pub words_some : (text : List ℕ) → 0 < length text → 0 < length (spaced_words text)
words_some text some = subst (λ ws. 0 < length ws) (sym (words-turn text some)) (omega arith)

pub words-cut : (text : List ℕ) (at : ℕ) → at ≤ length text → IsWordCut text at
    → spaced_words text ≡ spaced_words (take at text) ++ spaced_words (drop at text)
words-cut text zero within cut = refl
words-cut [] (suc n) within cut = absurd (omega (arith, within))
words-cut (c ∷ []) (suc n) within cut = one n within
  where
    one : (n : ℕ) → suc n ≤ 1
        → spaced_words (c ∷ []) ≡ spaced_words (take (suc n) (c ∷ [])) ++ spaced_words (drop (suc n) (c ∷ []))
    one zero within = sym (append-nil (spaced_words (c ∷ [])))
    one (suc n) within = absurd (omega (arith, within))
words-cut (c ∷ d ∷ cs) (suc zero) within cut =
    let (white, ink) = cut (omega arith) (omega arith) in
    before-word c d (take (word_len cs) cs) (first_spaced (d ∷ cs))
    (spaced_words (behind_spaced (d ∷ cs))) (spaced_words (d ∷ cs)) white (simp (ink, up))
    (words-turn (d ∷ cs) (omega arith)) ∙ simp white
words-cut (c ∷ d ∷ cs) (suc (suc n)) within cut =
    let later : IsWordCut (d ∷ cs) (suc n) = λ some more.
    let (white, ink) = cut (omega arith) (omega (arith, more)) in
    let same : suc (suc n - 1) ≡ suc (suc n) - 1 = omega arith in
    (ap (λ k. is_white (get_or (c ∷ d ∷ cs) k 0)) same ∙ white, ink) in
    ap (with_byte c) (words-cut (d ∷ cs) (suc n) (omega (arith, within)) later)
    ∙ with-more c (spaced_words (take (suc n) (d ∷ cs))) (spaced_words (drop (suc n) (d ∷ cs)))
    (words_some (take (suc n) (d ∷ cs)) (omega arith))

-- ---- behind the first word

-- where what follows the first word begins
abbrev pub first_end : List ℕ → ℕ
first_end text = length text - length (behind_spaced text)

pub behind-is : (text : List ℕ) → first_end text ≡ word_len text + prefix_len is_white (behind_word text)
behind-is text = omega (
  arith,
  prefix_len-le-length is_ink text,
  prefix_len-le-length is_white (behind_word text),
  length-drop (word_len text) text,
  length-drop (prefix_len is_white (behind_word text)) (behind_word text),
)

cut-at : (text : List ℕ) (i j : ℕ) → i ≡ word_len text → j ≡ prefix_len is_white (drop i text)
    → i + j < length text
    → (is_white (get_or text (i + j - 1) 0) ≡ true) × (is_white (get_or text (i + j) 0) ≡ false)
cut-at text i zero word white more =
    let ink = prefix_len_stops is_ink text 0 (omega (arith, word, more)) in
    let stops = prefix_len_stops is_white (drop i text) 0
    (omega (arith, white, more, length-drop i text)) in
    absurd (grind (arith, cases_Bool, nat_tests, ink, stops, word, white, get_or-drop i text 0 0))
cut-at text i (suc j) word white more = (
  ap is_white (ap (λ k. get_or text k 0) (omega arith) ∙ sym (get_or-drop i text j 0))
      ∙ prefix_len_passes is_white (drop i text) j 0 (omega (arith, white)),
  ap is_white (sym (get_or-drop i text (suc j) 0)) ∙ ap (λ k. is_white (get_or (drop i text) k 0)) white
      ∙ prefix_len_stops is_white (drop i text) 0 (omega (arith, white, more, length-drop i text)),
)

-- the first word ends at a cut, and what follows it begins there
pub record IsFirstCut (text : List ℕ) : Type 0 where
  pub within : first_end text ≤ length text
  pub some : 0 < first_end text
  pub behind : drop (first_end text) text ≡ behind_spaced text
  pub cut : IsWordCut text (first_end text)

pub first-cut : (text : List ℕ) → 0 < length text → IsFirstCut text
first-cut text some = record {
  within = omega arith;
  some = omega (arith, behind-shorter text some);
  behind = ap (λ n. drop n text) (behind-is text)
      ∙ sym (drop-drop (prefix_len is_white (behind_word text)) (word_len text) text);
  cut = λ begun more. subst (λ n. (is_white (get_or text (n - 1) 0) ≡ true)
      × (is_white (get_or text n 0) ≡ false)) (sym (behind-is text))
      (cut-at text (word_len text) (prefix_len is_white (behind_word text)) refl refl
      (subst (λ n. n < length text) (behind-is text) more));
}

-- so does the first word behind another cut
pub next-cut : (text : List ℕ) (at : ℕ) → at < length text
    → IsWordCut text (at + first_end (drop at text))
next-cut text at more = λ begun within.
    let rest = drop at text in
    let size = length-drop at text in
    let first = first-cut rest (omega (arith, size, more)) in
    let (white, ink) = first.cut first.some (omega (arith, size, within)) in (
      ap is_white (ap (λ n. get_or text n 0) (omega (arith, first.some))
          ∙ sym (get_or-drop at text (first_end rest - 1) 0)) ∙ white,
      ap is_white (sym (get_or-drop at text (first_end rest) 0)) ∙ ink,
    )

-- the words before a cut, where those behind it are known
pub front-is : (ws front : List SpacedText) (n : ℕ) → ws ≡ front ++ drop n ws → n ≤ length ws
    → front ≡ take n ws
front-is ws front n same within =
    let size : length front ≡ n =
    omega (arith, ap length same, length-append front (drop n ws), length-drop n ws) in
    sym (ap (λ k. take k ws) (sym size) ∙ ap (take (length front)) same ∙ take-append_seam front (drop n ws))

-- what is left behind so many words, where the text has so many
pub record IsBehindWords (text : List ℕ) (len : ℕ) (rest : List ℕ) : Type 0 where
  pub within : length rest ≤ length text
  pub behind : drop (length text - length rest) text ≡ rest
  pub cut : IsWordCut text (length text - length rest)
  pub some : len ≤ length (spaced_words text)
  pub words : spaced_words rest ≡ drop len (spaced_words text)

pub behind-next : (text : List ℕ) (len : ℕ) (rest : List ℕ) → IsBehindWords text len rest
    → 0 < length rest → IsBehindWords text (len + 1) (behind_spaced rest)
behind-next text len rest is some =
    let ws = spaced_words text in
    let at = length text - length rest in
    let later = behind_spaced rest in
    let first = first-cut rest some in
    let shorter = behind-shorter rest some in
    let next : length text - length later ≡ at + first_end rest = omega (arith, is.within, shorter) in
    let turn : drop len ws ≡ first_spaced rest ∷ spaced_words later = sym is.words ∙ words-turn rest some in
    record {
      within = omega (arith, is.within, shorter);
      behind = ap (λ n. drop n text) next ∙ sym (drop-drop (first_end rest) at text)
          ∙ ap (drop (first_end rest)) is.behind ∙ first.behind;
      cut = subst (IsWordCut text) (sym next) (subst (λ t. IsWordCut text (at + first_end t)) is.behind
          (next-cut text at (omega (arith, is.within, some))));
      some = omega (arith, is.some, length-drop len ws, ap length turn);
      words = sym (ap (drop 1) turn) ∙ drop-drop 1 len ws;
    }

-- the words of the text before what is left, where this is all that there is or was asked for
pub parts-are : (text : List ℕ) (len count : ℕ) (rest : List ℕ) → IsBehindWords text len rest
    → len ≤ count → (0 < length rest → len ≡ count)
    → (spaced_words (take (length text - length rest) text) ≡ take count (spaced_words text))
    × (spaced_words (drop (length text - length rest) text) ≡ drop count (spaced_words text))
parts-are text len count [] is order ends =
    let ws = spaced_words text in
    let all : length ws ≤ count = omega (arith, order, ap length is.words, length-drop len ws, is.some) in (
      ap spaced_words (take_all (length text - 0) text (omega arith)) ∙ sym (take_all count ws all),
      ap spaced_words is.behind ∙ sym (drop_all count ws all),
    )
parts-are text len count (c ∷ cs) is order ends =
    let ws = spaced_words text in
    let at = length text - length (c ∷ cs) in
    let same : len ≡ count = ends (omega arith) in
    let behind = ap spaced_words is.behind ∙ is.words in (
      front-is ws (spaced_words (take at text)) len (words-cut text at (omega arith) is.cut
          ∙ ap (λ l. spaced_words (take at text) ++ l) behind) is.some ∙ ap (λ n. take n ws) same,
      behind ∙ ap (λ n. drop n ws) same,
    )

-- ---- before the last word

-- a text of one word, and the white behind it
only-word : (text : List ℕ) (end : ℕ) → end ≤ length text → 0 < length text
    → AreWhite false text 0 end → AreWhite true text end (length text)
    → spaced_words text ≡ first_spaced text ∷ []
only-word text end within some ink white =
    let word : word_len text ≡ end = prefix_len_is is_ink text end 0 within
    (λ k below. grind (arith, cases_Bool, ink k (omega arith) below))
    (λ more. grind (arith, cases_Bool, white end (omega arith) more)) in
    let rest = drop end text in
    let size = length-drop end text in
    let spaces : prefix_len is_white rest ≡ length rest = prefix_len_is is_white rest (length rest) 0 (omega arith)
    (λ k below. ap is_white (get_or-drop end text k 0) ∙ white (end + k) (omega arith) (omega (arith, size, below)))
    (λ more. absurd (omega (arith, more))) in
    let none : behind_spaced text ≡ [] =
    ap (λ n. drop (prefix_len is_white (drop n text)) (drop n text)) word
    ∙ drop_of_length-le rest (omega (arith, spaces)) in
    words-turn text some ∙ ap (λ t. first_spaced text ∷ spaced_words t) none

-- the words of both parts
pub record IsLastCut (text : List ℕ) (start : ℕ) : Type 0 where
  pub front : spaced_words (take start text) ≡ words_before_last (spaced_words text)
  pub last : spaced_words (drop start text) ≡ last_of (spaced_words text)

parts-last : (ws front : List SpacedText) (w : SpacedText) → ws ≡ front ++ w ∷ []
    → (front ≡ words_before_last ws) × (w ∷ [] ≡ last_of ws)
parts-last ws front w same =
    let size : length ws - 1 ≡ length front =
    omega (arith, ap length same, length-append front (w ∷ [])) in (
      sym (ap (λ n. take n ws) size ∙ ap (take (length front)) same ∙ take-append_seam front (w ∷ [])),
      sym (ap (λ n. drop n ws) size ∙ ap (drop (length front)) same ∙ drop-append_seam front (w ∷ [])),
    )

pub last-cut : (text : List ℕ) (start end : ℕ) → start ≤ end → end ≤ length text
    → AreWhite false text start end → (0 < start → is_white (get_or text (start - 1) 0) ≡ true)
    → AreWhite true text end (length text) → (0 < end → is_white (get_or text (end - 1) 0) ≡ false)
    → IsLastCut text start
last-cut [] start end order within ink before white behind =
    let none : start ≡ 0 = omega (arith, order, within) in
    rw none (record { front = refl; last = refl })
last-cut (c ∷ cs) start end order within ink before white behind =
    let text = c ∷ cs in
    let met : 0 < start → start < end =
    λ some. grind (arith, nat_tests, cases_Bool, before some, behind, order, some) in
    let some : start < length text = grind (arith, nat_tests, met, order, within) in
    let cut : IsWordCut text start = λ begun more. (before begun, ink start (omega arith) (met begun)) in
    let back = drop start text in
    let size = length-drop start text in
    let one : spaced_words back ≡ first_spaced back ∷ [] = only-word back (end - start)
    (omega (arith, size, within, order)) (omega (arith, size, some))
    (λ i from below. ap is_white (get_or-drop start text i 0) ∙ ink (start + i) (omega arith) (omega (arith, below, order)))
    (λ i from below. ap is_white (get_or-drop start text i 0) ∙ white (start + i) (omega (arith, from, order)) (omega (arith, size, below))) in
    let (front, last) = parts-last (spaced_words text) (spaced_words (take start text)) (first_spaced back)
    (words-cut text start (omega (arith, some)) cut ∙ ap (λ l. spaced_words (take start text) ++ l) one) in
    record { front = front; last = one ∙ last }

-- a text may be cut behind white
pub boundary-at : (text : List ℕ) (at : ℕ) → IsUtf8 text → at ≤ length text
    → (0 < at → is_white (get_or text (at - 1) 0) ≡ true) → IsCharBoundary text at
boundary-at text zero utf8 within white = IsCharBoundary-start text utf8
boundary-at text (suc n) utf8 within white =
    let same : suc n - 1 ≡ n = omega arith in
    let next : n + 1 ≡ suc n = omega arith in
    subst (IsCharBoundary text) next (IsCharBoundary-after_ascii text n utf8 (omega (arith, within))
    (white-small (get_or text n 0) (subst (λ k. is_white (get_or text k 0) ≡ true) same (white (omega arith)))))

-- ---- how many there are

with-fewer : (c : ℕ) (ws : List SpacedText) → length (with_byte c ws) ≤ 1 + length ws
with-fewer c [] = omega arith
with-fewer c (w ∷ ws) = split (is_white c) refl w.word refl
  where
    split : (t : Bool) → is_white c ≡ t → (word : List ℕ) → w.word ≡ word
        → length (with_byte c (w ∷ ws)) ≤ 1 + length (w ∷ ws)
    split false is word w_is = simp is (omega arith)
    split true is [] w_is = simp (is, w_is) (omega arith)
    split true is (d ∷ word) w_is = simp (is, w_is) (omega arith)

pub words_fewer : (text : List ℕ) → length (spaced_words text) ≤ length text
words_fewer [] = omega arith
words_fewer (c ∷ cs) = omega (arith, with-fewer c (spaced_words cs), words_fewer cs)

pub words_none : (text : List ℕ) → (length (spaced_words text) == 0) ≡ (length text == 0)
words_none [] = refl
words_none (c ∷ cs) =
    let none : (length (spaced_words (c ∷ cs)) == 0) ≡ (length (c ∷ cs) == 0) =
    grind (arith, nat_tests, words_some (c ∷ cs) (omega arith)) in
    none

-- ---- their text

text-with : (c : ℕ) (ws : List SpacedText) → spaced_text (with_byte c ws) ≡ c ∷ spaced_text ws
text-with c [] = split (is_white c) refl
  where
    split : (t : Bool) → is_white c ≡ t → spaced_text (with_byte c []) ≡ c ∷ []
    split false is = simp is
    split true is = simp is
text-with c (w ∷ ws) = split (is_white c) refl w.word refl
  where
    split : (t : Bool) → is_white c ≡ t → (word : List ℕ) → w.word ≡ word
        → spaced_text (with_byte c (w ∷ ws)) ≡ c ∷ spaced_text (w ∷ ws)
    split false is word w_is = simp is
    split true is [] w_is = simp (is, w_is)
    split true is (d ∷ word) w_is = simp (is, w_is)

pub words-text : (text : List ℕ) → spaced_text (spaced_words text) ≡ text
words-text [] = refl
words-text (c ∷ cs) = text-with c (spaced_words cs) ∙ ap (λ t. c ∷ t) (words-text cs)

pub text-of : (text : List ℕ) (ws : List SpacedText) → spaced_words text ≡ ws → text ≡ spaced_text ws
text-of text ws is = sym (words-text text) ∙ ap spaced_text is

-- ---- the first word

pub first-word-is : (text : List ℕ) → take (word_len text) text ≡ first_word (spaced_words text)
first-word-is [] = refl
first-word-is (c ∷ cs) = ap first_word (sym (words-turn (c ∷ cs) (omega arith)))

pub rule_others : (ws : List SpacedText) → (length ws == 1) ≡ false → is_rule ws ≡ false
rule_others [] is = refl
rule_others (w ∷ []) is = absurd (true≢false is)
rule_others (w ∷ v ∷ ws) is = refl
