-- Where a word is split behind hyphens that stand within no escape sequence.
use Rattle.std.proofs.lemmas.List.{Folds.list_any-append, Sums.fold-append}
use Rattle.std.specs.Prelude.{chars}
use Rattle.textwrap_hyphens.specs.Outside.{hyphens_outside, is_hyphen_outside, is_outside, is_text}
use Rattle.textwrap_text.proofs.Common.{Bool, IsCharBoundary, IsUtf8, IsUtf8-take, List, cond}
use Rattle.textwrap_text.proofs.Common.{[], ap, append_assoc, arith, cases_Bool, cases_eq}
use Rattle.textwrap_text.proofs.Common.{chars-append, encode, encode_ascii, encode_utf8_all}
use Rattle.textwrap_text.proofs.Common.{encodes-chars, false, false≢true, filter, fold, inl, inr}
use Rattle.textwrap_text.proofs.Common.{length, list_any, ne_eqb, next_of, range_with_len, refl, suc}
use Rattle.textwrap_text.proofs.Common.{sym, take, drop, take-append-drop, true, zero, ℕ, slice_range}
use Rattle.textwrap_text.proofs.Common.{◌&&◌, ◌++◌, ◌+◌, ◌-◌, ◌<◌, ◌==◌, ◌∙◌, ◌∷◌, ◌≡◌, ◌≤◌}
use Rattle.textwrap_text.proofs.Lists.Parts.{take_slice}
use Rattle.textwrap_text.specs.declared.escapes.State.TheVariants.{Text}
use Rattle.textwrap_words.proofs.Common.{hyphen_points, is_hyphen_point}
use Rattle.textwrap_words.proofs.Word.Splitting.{after-hyphen}
use Rattle.textwrap_words.specs.WordSplitters.{inner_offsets}

-- ---- the state behind a text

-- read on from one place of a text to a later one
pub state-on : (text : List ℕ) (from to : ℕ) → IsUtf8 text → from ≤ to → IsCharBoundary text from
    → fold next_of (fold next_of Text (chars (take from text))) (chars (slice_range text from to))
    ≡ fold next_of Text (chars (take to text))
state-on text from to utf8 le at =
    sym (fold-append next_of Text (chars (take from text)) (chars (slice_range text from to)))
    ∙ ap (fold next_of Text) (sym (chars-append (take from text) (slice_range text from to)
    (IsUtf8-take text from utf8 at)) ∙ ap chars (sym (take_slice text from to le)))

-- ---- a text without ESC

any-front : (test : ℕ → Bool) (cs ds : List ℕ) → list_any test (cs ++ ds) ≡ false
    → list_any test cs ≡ false
any-front test cs ds none = grind (arith, list_any-append, cases_Bool)

any-back : (test : ℕ → Bool) (cs ds : List ℕ) → list_any test (cs ++ ds) ≡ false
    → list_any test ds ≡ false
any-back test cs ds none = grind (arith, list_any-append, cases_Bool)

state-plain : (cs : List ℕ) → list_any (λ b. b == 27) (encode_utf8_all cs) ≡ false
    → fold next_of Text cs ≡ Text
state-plain [] none = refl
state-plain (c ∷ cs) none =
    elim (cases_eq c 27) [
      | inl is ↦
          absurd (false≢true (sym (any-front (λ b. b == 27) (encode c) (encode_utf8_all cs) none)
          ∙ ap (list_any (λ b. b == 27)) (ap encode is ∙ encode_ascii 27 (omega arith))))
      | inr other ↦
          rw (ne_eqb c 27 other)
          (state-plain cs (any-back (λ b. b == 27) (encode c) (encode_utf8_all cs) none))
    ]

-- each offset of it stands outside
outside-plain : (text : List ℕ) (at : ℕ) → IsUtf8 text → list_any (λ b. b == 27) text ≡ false
    → IsCharBoundary text at → is_outside text at ≡ true
outside-plain text at utf8 none cut =
    ap is_text (state-plain (chars (take at text))
    (ap (list_any (λ b. b == 27)) (encodes-chars (take at text) (IsUtf8-take text at utf8 cut))
    ∙ any-front (λ b. b == 27) (take at text) (drop at text)
    (ap (list_any (λ b. b == 27)) (take-append-drop at text) ∙ none)))

hyphen-plain : (text : List ℕ) (at : ℕ) → IsUtf8 text → list_any (λ b. b == 27) text ≡ false
    → 1 ≤ at → at < length text → is_hyphen_outside text at ≡ is_hyphen_point text at
hyphen-plain text at utf8 none some inside =
    elim (cases_Bool (is_hyphen_point text at)) [
      | inl is ↦ rw is (outside-plain text at utf8 none (after-hyphen text at utf8 some inside is))
      | inr not ↦ rw not refl
    ]

-- offsets that pass a test, where the other gives the same
filter-alike : (test other : ℕ → Bool) (count at : ℕ)
    → ((k : ℕ) → at ≤ k → k < at + count → test k ≡ other k)
    → filter test (range_with_len at count) ≡ filter other (range_with_len at count)
filter-alike test other zero at same = refl
filter-alike test other (suc count) at same =
    let rest = filter-alike test other count (at + 1)
    (λ k from below. same k (omega (arith, from)) (omega (arith, below))) in
    rw (same at (omega arith) (omega arith), rest) refl

pub hyphens-plain : (text : List ℕ) → IsUtf8 text → list_any (λ b. b == 27) text ≡ false
    → hyphen_points text ≡ hyphens_outside text
hyphens-plain text utf8 none =
    sym (filter-alike (is_hyphen_outside text) (is_hyphen_point text) (length text - 1) 1
    (λ at from below. hyphen-plain text at utf8 none from (omega (arith, below))))

-- ---- those of points that stand outside

filter-both : (first second : ℕ → Bool) (xs : List ℕ)
    → filter second (filter first xs) ≡ filter (λ x. first x && second x) xs
filter-both first second [] = refl
filter-both first second (x ∷ xs) =
    elim (cases_Bool (first x)) [
      | inl is ↦ rw is (ap (λ l. cond (second x) (x ∷ l) l) (filter-both first second xs))
      | inr not ↦ rw not (filter-both first second xs)
    ]

pub outside-of : (text : List ℕ) → filter (is_outside text) (hyphen_points text) ≡ hyphens_outside text
outside-of text = filter-both (is_hyphen_point text) (is_outside text) (inner_offsets text)

-- a word without points has none outside
pub outside-none : (text : List ℕ) → hyphen_points text ≡ [] → [] ≡ hyphens_outside text
outside-none text none = ap (filter (is_outside text)) (sym none) ∙ outside-of text

-- one more of the points is looked at
pub outside-more : (text rest items more all : List ℕ) (point : ℕ) (b : Bool)
    → b ≡ is_outside text point → more ≡ cond b (items ++ point ∷ []) items
    → items ++ filter (is_outside text) (point ∷ rest) ≡ all → more ++ filter (is_outside text) rest ≡ all
outside-more text rest items more all point true is grown so_far =
    ap (λ l. l ++ filter (is_outside text) rest) grown
    ∙ append_assoc items (point ∷ []) (filter (is_outside text) rest)
    ∙ ap (λ b. items ++ cond b (point ∷ filter (is_outside text) rest) (filter (is_outside text) rest)) is
    ∙ so_far
outside-more text rest items more all point false is grown so_far =
    ap (λ l. l ++ filter (is_outside text) rest) grown
    ∙ ap (λ b. items ++ cond b (point ∷ filter (is_outside text) rest) (filter (is_outside text) rest)) is
    ∙ so_far
