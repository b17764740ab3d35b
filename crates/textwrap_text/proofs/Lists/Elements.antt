-- The elements of lists: what functions make of them, what a list contains, and lists of numbers in
-- order.
use Rattle.textwrap_text.proofs.Common.{append_assoc, IsStrictlyIncreasing, map-range_with_len_more}
use Rattle.textwrap_text.proofs.Common.{All-from_get_or, append-nil, get_or_default, join_with_byte}
use Rattle.textwrap_text.proofs.Common.{false≢true, filter-append, range_with_len, reverse-append}
use Rattle.textwrap_text.proofs.Common.{cases_eq, cases_lt, Contains, length-append, map-append, Ok}
use Rattle.textwrap_text.proofs.Common.{drop_at, eqb-true, flat_map, list_any, map_push, or_cases}
use Rattle.textwrap_text.proofs.Common.{[], eq-eqb, filter, get_or, length, map-id, Result, reverse}
use Rattle.textwrap_text.proofs.Common.{arith, Bool, cond, false, Iter, List, ne_eqb, repeat, rules}
use Rattle.textwrap_text.proofs.Common.{drop, Err, inl, inr, map, refl, suc, true, zero, ◌++◌, ◌==◌}
use Rattle.textwrap_text.proofs.Common.{ap, sym, ℕ, ◌*◌, ◌+◌, ◌-◌, ◌<◌, ◌∙◌, ◌∷◌, ◌≡◌, ◌≤◌, ◌⊎◌}
use Rattle.std.proofs.lemmas.Iterator.{items_from_drains, YieldsList-from_slice}
use Rattle.std.proofs.lemmas.Iterator.Consumers.{YieldsList-from_copied}
use Rattle.std.proofs.lemmas.List.Folds.{list_any_at, list_any_none}
use Rattle.std.specs.{declared.iter.Copied.Copied, Result.is_ok, Result.MatchResult}
use Rattle.std.specs.Iterator.{Adapters.copied_source, Adapters.copied_steps, Drains}
use Rattle.std.specs.Slice.Iter.{iter_rest, iter_steps}
use mathlib.Core.List.{reverse_aux}

-- ---- what functions make of the elements of a list

-- a list of views that was pushed to, and what follows it
pub map-push-append : {X Y : Type 0} (f : X → Y) (xs ys : List X) (x : X) (y : Y) (rest : List Y)
    → ys ≡ xs ++ x ∷ [] → f x ≡ y → map f ys ++ rest ≡ map f xs ++ (y ∷ rest)
map-push-append f xs ys x y rest pushed is = search (rules, arith, map-append, append_assoc)

pub reverse_map_push : {X Y : Type 0} (f : X → Y) (xs : List X) (x : X)
    → reverse (map f (xs ++ x ∷ [])) ≡ f x ∷ reverse (map f xs)
reverse_map_push f xs x = ap reverse (map_push f xs x) ∙ reverse-append (map f xs) (f x ∷ [])

reverse_aux-map : {X Y : Type 0} (f : X → Y) (xs front : List X)
    → map f (reverse_aux xs front) ≡ reverse_aux (map f xs) (map f front)
reverse_aux-map f [] front = refl
reverse_aux-map f (x ∷ xs) front = reverse_aux-map f xs (x ∷ front)

pub reverse-map : {X Y : Type 0} (f : X → Y) (xs : List X) → map f (reverse xs) ≡ reverse (map f xs)
reverse-map f xs = reverse_aux-map f xs []

pub flat-map : (f : List ℕ → List ℕ) (parts : List (List ℕ))
    → flat_map (λ part. part) (map f parts) ≡ flat_map f parts
flat-map f [] = refl
flat-map f (part ∷ parts) = ap (λ l. f part ++ l) (flat-map f parts)

pub dropped-map : (prefix : List ℕ) (parts : List (List ℕ))
    → map (drop (length prefix)) (map (λ part. prefix ++ part) parts) ≡ parts
dropped-map prefix [] = refl
dropped-map prefix (part ∷ parts) = search (rules, arith, drop_at, dropped-map prefix parts)

pub given-copied : {A : Type 0} (it : Copied (Iter A)) (items xs : List A)
    → iter_rest (copied_source it) ≡ items → Drains (copied_steps iter_steps) it xs → xs ≡ items
given-copied it items xs is drained = sym (map-id xs)
    ∙ items_from_drains {v = λ y. y} xs (drained.1.0, drained.1.1, λ _. (drained.0, drained.1.2))
    (YieldsList-from_copied (YieldsList-from_slice items is))

pub join-push : (xs : List (List ℕ)) (y : List ℕ) → 0 < length xs
    → (join_with_byte 10 xs ++ 10 ∷ []) ++ y ≡ join_with_byte 10 (xs ++ y ∷ [])
join-push [] y some = absurd (omega arith)
join-push (x ∷ []) y some = append_assoc x (10 ∷ []) y
join-push (x ∷ z ∷ xs) y some = search (append_assoc, join-push (z ∷ xs) y (omega arith))

-- ---- ranges of numbers, and those among them that pass a test

range-more : (a n : ℕ) → range_with_len a (n + 1) ≡ range_with_len a n ++ (a + n) ∷ []
range-more a n =
    sym (map-id (range_with_len a (n + 1))) ∙ map-range_with_len_more (λ (x : ℕ). x) a n
    (a + n) refl ∙ ap (λ xs. xs ++ (a + n) ∷ []) (map-id (range_with_len a n))

filter-one : (test : ℕ → Bool) (point : ℕ) (items : List ℕ) (b : Bool) → b ≡ test point
    → items ++ filter test (point ∷ []) ≡ cond b (items ++ point ∷ []) items
filter-one test point items true is = rw (← is) refl
filter-one test point items false is = rw (← is) (append-nil items)

-- one more offset is looked at
pub points-more : (test : ℕ → Bool) (point : ℕ) (items more : List ℕ) (b : Bool) → 1 ≤ point
    → items ≡ filter test (range_with_len 1 (point - 1))
    → b ≡ test point → more ≡ cond b (items ++ point ∷ []) items
    → more ≡ filter test (range_with_len 1 (point + 1 - 1))
points-more test point items more b start so_far passes is =
    grind (arith, filter-one, range-more, filter-append)

pub range-split : (a n m : ℕ) → range_with_len a (n + m) ≡ range_with_len a n ++ range_with_len (a + n) m
range-split a zero m = grind arith
range-split a (suc n) m =
    let more : suc n + m ≡ suc (n + m) = omega arith in
    let on : (a + 1) + n ≡ a + suc n = omega arith in search (rules, arith, range-split (a + 1) n m)

-- ---- a list, repeated

pub repeat_more : (n : ℕ) (xs : List ℕ) → repeat n xs ++ xs ≡ repeat (n + 1) xs
repeat_more zero xs = sym (append-nil xs)
repeat_more (suc n) xs = grind (arith, append_assoc, repeat_more n xs)

pub length-repeat : (n : ℕ) (xs : List ℕ) → length (repeat n xs) ≡ n * length xs
length-repeat zero xs = omega arith
length-repeat (suc n) xs = omega (arith, length-append xs (repeat n xs), length-repeat n xs)

-- ---- what lists contain, and lists that are in the order of a number of each item

pub contains-nil : {X : Type 0} (y : X) → Contains [] y → ⊥
contains-nil y h = omega (arith, h.1)

pub contains-here : {X : Type 0} (x y : X) (xs : List X) → x ≡ y → Contains (x ∷ xs) y
contains-here x y xs e = (0, omega arith, e)

pub contains-later : {X : Type 0} (x y : X) (xs : List X) → Contains xs y → Contains (x ∷ xs) y
contains-later x y xs h = (suc h.0, omega (arith, h.1), h.2)

pub contains-cases : {X : Type 0} (x y : X) (xs : List X) → Contains (x ∷ xs) y
    → (x ≡ y) ⊎ Contains xs y
contains-cases x y xs (zero, within, e) = inl e
contains-cases x y xs (suc k, within, e) = inr (k, omega arith, e)

module _ {X : Type 0} (number : X → ℕ) where
  -- each is below all later ones
  abbrev pub IsInOrder : List X → Type 0
  IsInOrder xs = (i j : ℕ) (none : X) → i < j → j < length xs
      → number (get_or xs i none) < number (get_or xs j none)

  pub order-nil : IsInOrder []
  order-nil = λ i j none lt within. omega arith

  -- an item in front, whose number is below those of the others
  pub order-cons : (x : X) (xs : List X)
      → ((i : ℕ) (none : X) → i < length xs → number x < number (get_or xs i none))
      → IsInOrder xs → IsInOrder (x ∷ xs)
  order-cons x xs below order zero zero none lt within = omega arith
  order-cons x xs below order zero (suc j) none lt within = below j none (omega arith)
  order-cons x xs below order (suc i) zero none lt within = omega arith
  order-cons x xs below order (suc i) (suc j) none lt within = search (rules, arith)

  order-tail : (x : X) (xs : List X) → IsInOrder (x ∷ xs) → IsInOrder xs
  order-tail x xs order = λ i j none lt within.
      order (suc i) (suc j) none (omega arith) (omega arith)

  order-below : (x y : X) (xs : List X) → IsInOrder (x ∷ xs) → Contains xs y → number x < number y
  order-below x y xs order h =
      let far : number x < number (get_or xs h.0 y) =
      order 0 (suc h.0) y (omega arith) (omega (arith, h.1)) in search (rules, arith)

  members-tail : (x y : X) (xs ys : List X) → IsInOrder (x ∷ xs) → x ≡ y
      → ((z : X) → Contains (x ∷ xs) z → Contains (y ∷ ys) z) → (z : X) → Contains xs z
      → Contains ys z
  members-tail x y xs ys order first to z h =
      elim (contains-cases y z ys (to z (contains-later x z xs h))) [
        | inl e ↦ absurd (omega (arith, order-below x z xs order h, ap number (first ∙ e)))
        | inr past ↦ past
      ]

  -- lists in order with the same items are the same
  pub same-members : (xs ys : List X) → IsInOrder xs → IsInOrder ys
      → ((z : X) → Contains xs z → Contains ys z) → ((z : X) → Contains ys z → Contains xs z)
      → xs ≡ ys
  same-members [] [] ox oy to from = refl
  same-members [] (y ∷ ys) ox oy to from =
      absurd (contains-nil y (from y (contains-here y y ys refl)))
  same-members (x ∷ xs) [] ox oy to from =
      absurd (contains-nil x (to x (contains-here x x xs refl)))
  same-members (x ∷ xs) (y ∷ ys) ox oy to from =
      let first : x ≡ y = elim (contains-cases y x ys (to x (contains-here x x xs refl))) [
        | inl e ↦ sym e
        | inr later ↦ elim (contains-cases x y xs (from y (contains-here y y ys refl))) [
          | inl e ↦ e
          | inr past ↦ absurd
              (omega (arith, order-below y x ys oy later, order-below x y xs ox past))
        ]
      ] in
      let rest = same-members xs ys (order-tail x xs ox) (order-tail y ys oy)
      (members-tail x y xs ys ox first to) (members-tail y x ys xs oy (sym first) from) in
      cc

-- ---- lists of numbers that increase, and what they contain

-- each is below all later ones
abbrev pub IsRising : List ℕ → Type 0
IsRising xs = (i j : ℕ) → i < j → j < length xs → get_or xs i 0 < get_or xs j 0

pub increasing-le : (xs : List ℕ) → IsStrictlyIncreasing xs → (i j : ℕ) → i ≤ j → j < length xs
    → get_or xs i 0 ≤ get_or xs j 0
increasing-le xs up i zero le within = let first : i ≡ 0 = omega arith in rw first (omega arith)
increasing-le xs up i (suc j) le within = elim (cases_eq i (suc j)) [
  | inl same ↦ rw same (omega arith)
  | inr other ↦ grind (arith, increasing-le xs up i j (omega (arith, other)) (omega arith))
]

pub increasing-rising : (xs : List ℕ) → IsStrictlyIncreasing xs → IsRising xs
increasing-rising xs up = search (rules, arith, increasing-le)

-- so they are in the order of themselves
pub rising-in_order : (xs : List ℕ) → IsRising xs → IsInOrder (λ x. x) xs
rising-in_order xs rising = search (rules, arith, get_or_default)

pub contains-any : (x : ℕ) (xs : List ℕ) → Contains xs x → list_any (λ y. y == x) xs ≡ true
contains-any x xs h = list_any_at (λ y. y == x) xs h.0 x h.1 (eq-eqb (get_or xs h.0 x) x h.2)

pub any-contains : (x : ℕ) (xs : List ℕ) → list_any (λ y. y == x) xs ≡ true → Contains xs x
any-contains x [] any = absurd (false≢true any)
any-contains x (y ∷ ys) any = elim (or_cases (y == x) (list_any (λ z. z == x) ys) any) [
  | inl here ↦ contains-here y x ys (eqb-true y x here)
  | inr later ↦ contains-later y x ys (any-contains x ys later)
]

-- what a search among increasing numbers answers
pub among-is : (xs : List ℕ) (x : ℕ) (r : Result ℕ ℕ)
    → MatchResult r (λ i. (i < length xs) × (get_or xs i 0 ≡ x))
    (λ i. (i ≤ length xs) × ((k : ℕ) → k < i → get_or xs k 0 < x)
    × ((k : ℕ) → i ≤ k → k < length xs → x < get_or xs k 0))
    → is_ok r ≡ list_any (λ y. y == x) xs
among-is xs x (Ok i) h = sym (list_any_at (λ y. y == x) xs i 0 h.0 (eq-eqb (get_or xs i 0) x h.1))
among-is xs x (Err i) h =
    sym (list_any_none (λ y. y == x) xs (All-from_get_or (λ y. (y == x) ≡ false) xs 0
    (grind (arith, cases_lt, ne_eqb))))
