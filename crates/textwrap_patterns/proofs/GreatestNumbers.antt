-- The greatest of numbers: among parts of a list, one more, and in any order.
use Rattle.std.proofs.{Common.Err, Common.Ok, lemmas.List.get_or-append_right}
use Rattle.std.proofs.lemmas.List.Sorted.{All-permutation, IsPermutation-sym}
use Rattle.std.specs.{List.Sorted.IsPermutation, Prelude.is_ok}
use Rattle.textwrap_patterns.specs.Merging.{first_numbers, greatest}
use Rattle.textwrap_patterns.specs.declared.entries.TrieEntry.{TrieEntry}
use Rattle.textwrap_text.proofs.Common.{ap, arith, get_or, length, List, map, map-append, max, take}
use Rattle.textwrap_text.proofs.Common.{take_more, ℕ, ◌+◌, ◌++◌, ◌<◌, ◌∙◌, ◌∷◌, ◌≡◌, []}
use Rattle.textwrap_text.proofs.Common.{get_or_past, All, All-cons, All-head, All-tail, ◌≤◌, drop}
use Rattle.textwrap_text.proofs.Common.{get_or-drop, get_or_append_left, cond, IfOk, min, Result}

pub greatest-append : (ns ms : List ℕ) → greatest (ns ++ ms) ≡ max (greatest ns) (greatest ms)
greatest-append [] ms = omega arith
greatest-append (n ∷ ns) ms = omega (arith, greatest-append ns ms)

pub greatest-parts : {X : Type 0} (f : X → ℕ) (xs ys : List X)
    → greatest (map f (xs ++ ys)) ≡ max (greatest (map f xs)) (greatest (map f ys))
greatest-parts f xs ys = ap greatest (map-append f xs ys) ∙ greatest-append (map f xs) (map f ys)

pub greatest-more : {X : Type 0} (f : X → ℕ) (xs : List X) (i : ℕ) (x : X) → i < length xs
    → x ≡ get_or xs i x
    → greatest (map f (take (i + 1) xs)) ≡ max (greatest (map f (take i xs))) (f x)
greatest-more f xs i x within is =
    grind (arith, greatest-parts f (take i xs) (get_or xs i x ∷ []), take_more xs i x within)

-- the first of some counts among them
pub greatest-first : {A : Type 0} (group : List (TrieEntry A)) (place : ℕ)
    → max (get_or (first_numbers group) place 0)
    (greatest (map (λ (e : TrieEntry A). get_or e.numbers.items place 0) group))
    ≡ greatest (map (λ (e : TrieEntry A). get_or e.numbers.items place 0) group)
greatest-first [] place = omega (arith, get_or_past {X = ℕ} [] place 0 (omega arith))
greatest-first (e ∷ es) place = omega arith

-- ---- in any order

pub greatest-upto : {X : Type 0} (f : X → ℕ) (xs : List X) (most : ℕ)
    → All (λ x. f x ≤ most) xs → greatest (map f xs) ≤ most
greatest-upto f [] most below = omega arith
greatest-upto f (x ∷ xs) most below =
    let has = λ (y : _). f y ≤ most in
    let here = All-head has x xs below in
    let rest = greatest-upto f xs most (All-tail has x xs below) in
    omega (arith, here, rest)

pub upto-greatest : {X : Type 0} (f : X → ℕ) (xs : List X)
    → All (λ x. f x ≤ greatest (map f xs)) xs
upto-greatest f [] = λ k d within. absurd (omega (arith, within))
upto-greatest f (x ∷ xs) =
    All-cons (λ y. f y ≤ greatest (map f (x ∷ xs))) x xs (omega arith) (λ k d within.
    let rest = upto-greatest f xs k d within in omega (arith, rest))

greatest-moved : {X : Type 0} (f : X → ℕ) (xs ys : List X) → IsPermutation xs ys
    → greatest (map f ys) ≤ greatest (map f xs)
greatest-moved f xs ys moved =
    greatest-upto f ys (greatest (map f xs))
    (All-permutation (λ x. f x ≤ greatest (map f xs)) xs ys moved (upto-greatest f xs))

pub greatest-permutation : {X : Type 0} (f : X → ℕ) (xs ys : List X) → IsPermutation xs ys
    → greatest (map f ys) ≡ greatest (map f xs)
greatest-permutation f xs ys moved = grind (arith, greatest-moved, IsPermutation-sym)

-- ---- raised, and appended

-- numbers that are raised to others, as far as both go, before the rest of the others
pub raised-appended : (old raised others : List ℕ) (len place : ℕ)
    → length raised ≡ length old → len ≡ min (length raised) (length others)
    → ((k : ℕ) → k < length old → get_or raised k 0 ≡ max (get_or old k 0) (get_or others k 0))
    → get_or (raised ++ drop len others) place 0 ≡ max (get_or old place 0) (get_or others place 0)
raised-appended old raised others len place same is are =
    grind (arith, get_or_append_left, get_or_past, get_or-append_right, get_or-drop)

-- what a call leaves that appends the rest of the others
pub if_ok-appended : {E : Type 0} (r : Result (Unit {0}) E) (old raised others rest : List ℕ)
    (len : ℕ) (was now : List ℕ) → was ≡ raised → rest ≡ drop len others
    → now ≡ cond (is_ok r) (was ++ rest) was → length raised ≡ length old
    → len ≡ min (length raised) (length others)
    → ((k : ℕ) → k < length old → get_or raised k 0 ≡ max (get_or old k 0) (get_or others k 0))
    → IfOk r (λ done. (place : ℕ) → get_or now place 0 ≡ max (get_or old place 0) (get_or others place 0))
if_ok-appended (Ok done) old raised others rest len was now is of after same min are =
    grind (arith, raised-appended)
if_ok-appended (Err e) old raised others rest len was now is of after same min are = tt
