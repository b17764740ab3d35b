-- Tests of two parts, tests that no element passes, lists that are put together, and the first part of
-- a text round a mark.
use Rattle.std.proofs.lemmas.List.Splits.{slice_split_first, slice_split_none}
use Rattle.std.proofs.lemmas.{List.Sums.prefix_len_passes, Slice.Eq.bytes_eq-Decides}
use Rattle.std.specs.List.{position_or_len, before_first, after_first}
use Rattle.textwrap_marks.proofs.Common.{false, rules, List, refl, true, ◌||◌, not, sym, ◌<◌, ◌∙◌, ◌∷◌, ℕ}
use Rattle.textwrap_marks.proofs.Common.{false_from_ne_true, true≢false, bytes_eq, list_any, length, Bool}
use Rattle.textwrap_marks.proofs.Common.{◌≡◌, [], ap}
use Rattle.textwrap_text.proofs.Common.{not-true, All-nil, All}
use Rattle.textwrap_text.proofs.Common.{slice_split, All-append, All-cons, All-head, All-tail, flat_map}
use Rattle.textwrap_text.proofs.Lists.Parts.{all-right, all-left}

-- ---- tests of two parts

pub or-left : (a b : Bool) → (a || b) ≡ false → a ≡ false
or-left false b is = refl
or-left true b is = is

pub or-right : (a b : Bool) → (a || b) ≡ false → b ≡ false
or-right false b is = is
or-right true b is = absurd (true≢false is)

-- a text is none that a test tells from it
pub told-apart : (test : List ℕ → Bool) (word other : List ℕ) → test word ≡ true → test other ≡ false
    → bytes_eq word other ≡ false
told-apart test word other is none =
    false_from_ne_true (bytes_eq word other) (λ same.
    true≢false (sym is ∙ ap test ((bytes_eq-Decides word other).0 same) ∙ none))

-- ---- tests that no element passes

pub any-none : {X : Type 0} (test : X → Bool) (xs : List X) → list_any test xs ≡ false
    → All (λ x. test x ≡ false) xs
any-none test [] is = All-nil (λ x. test x ≡ false)
any-none test (x ∷ xs) is =
    All-cons (λ x. test x ≡ false) x xs (or-left (test x) (list_any test xs) is)
    (any-none test xs (or-right (test x) (list_any test xs) is))

pub none-any : {X : Type 0} (test : X → Bool) (xs : List X) → All (λ x. test x ≡ false) xs
    → list_any test xs ≡ false
none-any test [] all = refl
none-any test (x ∷ xs) all =
    ap (λ b. b || list_any test xs) (All-head (λ x. test x ≡ false) x xs all)
    ∙ none-any test xs (All-tail (λ x. test x ≡ false) x xs all)

-- ---- lists that are put together

-- what holds of all that the parts hold, holds of what each of them holds, and the other way round
pub flat-each : {X Y : Type 0} (P : Y → Type 0) (f : X → List Y) (xs : List X) → All P (flat_map f xs)
    → All (λ x. All P (f x)) xs
flat-each P f [] all = All-nil (λ x. All P (f x))
flat-each P f (x ∷ xs) all =
    All-cons (λ x. All P (f x)) x xs (all-left P (f x) (flat_map f xs) all)
    (flat-each P f xs (all-right P (f x) (flat_map f xs) all))

pub each-flat : {X Y : Type 0} (P : Y → Type 0) (f : X → List Y) (xs : List X)
    → All (λ x. All P (f x)) xs → All P (flat_map f xs)
each-flat P f [] all = All-nil P
each-flat P f (x ∷ xs) all =
    All-append P (f x) (flat_map f xs) (All-head (λ x. All P (f x)) x xs all)
    (each-flat P f xs (All-tail (λ x. All P (f x)) x xs all))

-- ---- the first part of a text round a mark

module _ (p : ℕ → Bool) where
  pub split-one : (text : List ℕ) → position_or_len p text ≡ length text
      → slice_split p text ≡ text ∷ []
  split-one text all = search (rules, slice_split_none, not-true, prefix_len_passes, not)

  pub split-first : (text part rest : List ℕ)
      → (position_or_len p text < length text) × (part ≡ before_first p text)
      × (rest ≡ after_first p text) → slice_split p text ≡ part ∷ slice_split p rest
  split-first text part rest (within, first, later) =
      slice_split_first p text 0 within ∙ ap (λ l. l ∷ slice_split p (after_first p text)) (sym first)
      ∙ ap (λ l. part ∷ slice_split p l) (sym later)
