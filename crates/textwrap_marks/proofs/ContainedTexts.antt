-- Where a text stands in another: somewhere, in front or at the end.
use Rattle.std.proofs.{Common.ap₂, Math.Bool.or-true, lemmas.List.Folds.list_any-append}
use Rattle.std.specs.Option.{MatchOption}
use Rattle.std.specs.Str.{Iter.HasSubslice, Pattern.FindsTextSuffix, Pattern.StripsSuffix}
use Rattle.textwrap_marks.proofs.Common.{arith, false, List, drop, refl, take, true, ◌++◌, ◌||◌, sym, ◌+◌}
use Rattle.textwrap_marks.proofs.Common.{false_from_ne_true, true≢false, contains, list_any, length, Bool}
use Rattle.textwrap_marks.proofs.Common.{◌-◌, ◌<◌, ◌∙◌, ◌∷◌, ◌≡◌, [], ap, ℕ}
use Rattle.textwrap_text.proofs.Common.{None, Some, Bor, ◌↔◌}
use Rattle.textwrap_text.proofs.Common.{length-append, starts_with, ends_with, take_at, Option, nat_eq}
use Rattle.textwrap_text.proofs.Lists.Parts.{starts_with-rest, starts_with-true, ends_with-front}
use Rattle.textwrap_text.proofs.Lists.Parts.{stripped_suffix, ends_with-true}

module _ (part : List ℕ) where
  contains-from : (text a b : List ℕ) → text ≡ a ++ (part ++ b) → contains part text ≡ true
  contains-from [] [] b is = starts_with-true part [] b is
  contains-from [] (x ∷ a) b is = absurd (omega (arith, ap length is))
  contains-from (c ∷ cs) [] b is =
      ap (λ t. t || contains part cs) (starts_with-true part (c ∷ cs) b is)
  contains-from (c ∷ cs) (x ∷ a) b is =
      ap (λ t. starts_with nat_eq (c ∷ cs) part || t)
      (contains-from cs a b (ap (drop 1) is)) ∙ or-true (starts_with nat_eq (c ∷ cs) part)

  contains-to : (text : List ℕ) → contains part text ≡ true → HasSubslice text part
  contains-to [] is = ([], drop (length part) [], starts_with-rest part [] is)
  contains-to (c ∷ cs) is = found (starts_with nat_eq (c ∷ cs) part) refl (contains-to cs) is
    where
      found : (t : Bool) → starts_with nat_eq (c ∷ cs) part ≡ t
          → (contains part cs ≡ true → HasSubslice cs part) → (t || contains part cs) ≡ true
          → HasSubslice (c ∷ cs) part
      found true starts later is =
          ([], drop (length part) (c ∷ cs), starts_with-rest part (c ∷ cs) starts)
      found false starts later is = let (a, b, at) = later is in (c ∷ a, b, ap (λ l. c ∷ l) at)

  -- what says whether a text stands in another is the test
  pub contains-is : (text : List ℕ) (r : Bool) → (r ≡ true) ↔ HasSubslice text part
      → r ≡ contains part text
  contains-is text true is =
      let (a, b, at) = is.0 refl in sym (contains-from text a b at)
  contains-is text false is = sym (false_from_ne_true (contains part text) (λ found.
      let bad : false ≡ true = is.1 (contains-to text found) in cc))

-- what is left of a text without an end is its front, if it has that end
pub without-end : (end text : List ℕ) (r : Option (Bor (List ℕ)))
    → MatchOption r (FindsTextSuffix end text None) (λ x. StripsSuffix (FindsTextSuffix end) text x.now)
    → MatchOption r (ends_with nat_eq text end ≡ false)
    (λ x. (ends_with nat_eq text end ≡ true) × (x.now ≡ take (length text - length end) text))
without-end end text None lacks =
    false_from_ne_true (ends_with nat_eq text end)
    (λ ends. lacks (take (length text - length end) text) (ends_with-front end text ends))
without-end end text (Some x) strips =
    let is = stripped_suffix end text x.now strips in (
      ends_with-true end text x.now is,
      sym (ap₂ (λ n t. take (n - length end) t) (ap length is ∙ length-append x.now end) is
          ∙ take_at x.now end ((length x.now + length end) - length end) (omega arith)),
    )

-- each text has the empty one
pub contains-nothing : (part text : List ℕ) → length part < 1 → contains part text ≡ true
contains-nothing [] [] none = refl
contains-nothing [] (c ∷ cs) none = refl
contains-nothing (byte ∷ part) text none = absurd (omega (arith, none))

-- a test that some byte of a part passes, and none of a text: the part does not stand in the text
has-any : (test : ℕ → Bool) (part text : List ℕ) → HasSubslice text part → list_any test part ≡ true
    → list_any test text ≡ true
has-any test part text (a, b, is) some =
    ap (list_any test) is ∙ list_any-append test a (part ++ b)
    ∙ ap (λ t. list_any test a || t) (list_any-append test part b ∙ ap (λ t. t || list_any test b) some)
    ∙ or-true (list_any test a)

pub contains-lacks : (test : ℕ → Bool) (part text : List ℕ) → list_any test part ≡ true
    → list_any test text ≡ false → contains part text ≡ false
contains-lacks test part text some none =
    false_from_ne_true (contains part text)
    (λ found. true≢false (sym (has-any test part text (contains-to part text found) some) ∙ none))

-- nor does the text begin with it
pub begins-lacks : (test : ℕ → Bool) (part text : List ℕ) → list_any test part ≡ true
    → list_any test text ≡ false → starts_with nat_eq text part ≡ false
begins-lacks test part text some none =
    false_from_ne_true (starts_with nat_eq text part) (λ starts. true≢false (sym (has-any test part text
    ([], drop (length part) text, starts_with-rest part text starts) some) ∙ none))
