-- A word of few letters has no place with enough of them on both sides.
use Rattle.std.proofs.lemmas.List.Sums.{count_by-le-length, length-filter}
use Rattle.textwrap_hyphens.specs.Hyphenation.{Hyphenation, is_allowed, is_place, part_places, places_from}
use Rattle.textwrap_patterns.specs.Letters.{apostrophe, counts, has_letters}
use Rattle.textwrap_text.proofs.Common.{Bool, List, ap, arith, false, filter, length, length-append, length-drop}
use Rattle.textwrap_text.proofs.Common.{refl, true, ℕ, ◌+◌, ◌∙◌, ◌∷◌, ◌≡◌, [], not, filter-append, cases_Bool}
use Rattle.textwrap_text.proofs.Common.{drop, inl, inr, sym, take, nat_tests, take-append-drop, slice_index, ◌-◌}
use Rattle.textwrap_text.proofs.Common.{◌==◌, ◌&&◌, ◌++◌, ◌<◌}

pub filter-none : {X : Type 0} (test : X → Bool) → ((x : X) → test x ≡ false) → (xs : List X)
    → filter test xs ≡ []
filter-none test none [] = refl
filter-none test none (x ∷ xs) = rw (none x) (filter-none test none xs)

filter-length : {X : Type 0} (test : X → Bool) (xs ys : List X)
    → length (filter test (xs ++ ys)) ≡ length (filter test xs) + length (filter test ys)
filter-length test xs ys = grind (arith, nat_tests, filter-append, length-append)

none-last : (a : Bool) → a && false ≡ false
none-last true = refl
none-last false = refl

none-before : (a d : Bool) → (a && false) && d ≡ false
none-before true d = refl
none-before false d = refl

-- a place with too few characters behind it is not allowed
pub never-behind : (h : Hyphenation) (letters : List ℕ) (place : ℕ) → place < length letters
    → length letters < place + h.right → is_allowed h letters place ≡ false
never-behind h letters place inside past =
    let front = take place letters in
    let back = drop place letters in
    let beside = not (slice_index letters (place - 1) == apostrophe) in
    let counted = counts (slice_index letters place) in
    let short : has_letters h.right back ≡ false = grind (
      arith,
      nat_tests,
      length-filter counts back,
      count_by-le-length counts back,
      length-drop place letters,
    ) in
    rw short (none-last (beside && counted && has_letters h.left front))

module _ (h : Hyphenation) (letters : List ℕ)
    (few : length (filter counts letters) < h.left + h.right) where
  never-allowed : (place : ℕ) → is_allowed h letters place ≡ false
  never-allowed place =
      let front = take place letters in
      let back = drop place letters in
      let beside = not (slice_index letters (place - 1) == apostrophe) in
      let counted = counts (slice_index letters place) in
      let sum : length (filter counts letters) ≡ length (filter counts front) + length (filter counts back) =
      ap (λ cs. length (filter counts cs)) (sym (take-append-drop place letters))
      ∙ filter-length counts front back in
      elim (cases_Bool (has_letters h.left front)) [
        | inl before ↦
            elim (cases_Bool (has_letters h.right back)) [
              | inl behind ↦ absurd (grind (arith, nat_tests))
              | inr short ↦ rw short (none-last (beside && counted && has_letters h.left front))
            ]
        | inr short ↦ rw short (none-before (beside && counted) (has_letters h.right back))
      ]

  no-parts : (from to : ℕ) → part_places h letters from to ≡ []
  no-parts from to = filter-none (is_place h letters from to) (λ place. rw (never-allowed place) (grind arith)) _

  pub no-places : (from : ℕ) (joints : List ℕ) → places_from h letters from joints ≡ []
  no-places from [] = no-parts from (length letters)
  no-places from (joint ∷ joints) =
      rw (no-parts from joint, never-allowed joint) (no-places joint joints)
