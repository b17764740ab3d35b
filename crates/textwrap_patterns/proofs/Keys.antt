-- Keys in order, from a letter on.
use Rattle.std.{proofs.lemmas.List.get_or-append-add, specs.Cmp.Lexicographic.slice_cmp}
use Rattle.std.specs.{Ordering.is_lt, Ordering.nat_cmp, Ordering.ordering_then, Prelude.bytes_eq}
use Rattle.std.specs.declared.cmp.Ordering.TheVariants.{Equal, Greater, Less}
use Rattle.textwrap_patterns.specs.Entries.{AreSortedFrom, entry_for, is_before, letter_at}
use Rattle.textwrap_patterns.specs.declared.entries.TrieEntry.{TrieEntry}
use Rattle.textwrap_text.proofs.Common.{[], All, All-head, All-tail, ap, ap₂, arith, Bool, cond}
use Rattle.textwrap_text.proofs.Common.{drop, drop_all, drop_more, eq-eqb, eqb, eqb-true, false}
use Rattle.textwrap_text.proofs.Common.{false≢true, get_or, get_or-drop, get_or-take, inl, inr}
use Rattle.textwrap_text.proofs.Common.{length, length-append, length-drop, length-take, List, ltb}
use Rattle.textwrap_text.proofs.Common.{ltb-true, nat_tests, ne_eqb, None, Option, refl, Some}
use Rattle.textwrap_text.proofs.Common.{subst, suc, sym, take, true, zero, ℕ, ◌&&◌, ◌++◌, ◌+◌, ◌<◌}
use Rattle.textwrap_text.proofs.Common.{◌∙◌, ◌∷◌, ◌≡◌, ◌≢◌, ◌≤◌, ◌⊎◌}

-- nothing stands before a key that has ended
before-some : (xs ys : List ℕ) → is_before xs ys ≡ true → 0 < length ys
before-some [] [] before = absurd (false≢true before)
before-some (x ∷ xs) [] before = absurd (false≢true before)
before-some xs (y ∷ ys) before = omega arith

-- so only the first key can end at the letter
longer-behind : {A : Type 0} (depth : ℕ) (entries : List (TrieEntry A)) → AreSortedFrom depth entries
    → (k : ℕ) (d : TrieEntry A) → 0 < k → k < length entries
    → depth < length (get_or entries k d).key.items
longer-behind depth entries sorted k d behind within =
    let first = (get_or entries 0 d).key.items in
    let key = (get_or entries k d).key.items in
    let some = before-some (drop depth first) (drop depth key) (sorted 0 k d behind within) in
    omega (arith, some, length-drop depth key)

pub longer-after : {A : Type 0} (depth : ℕ) (entries : List (TrieEntry A)) → AreSortedFrom depth entries
    → All (λ e. depth < length e.key.items) (drop 1 entries)
longer-after depth entries sorted = λ k d within.
    rw get_or-drop (longer-behind depth entries sorted (1 + k) d (omega arith)
    (omega (arith, within, length-drop 1 entries)))

pub longer-all : {A : Type 0} (depth : ℕ) (entries : List (TrieEntry A)) (first : TrieEntry A) → AreSortedFrom depth entries
    → first ≡ get_or entries 0 first → depth < length first.key.items
    → All (λ e. depth < length e.key.items) entries
longer-all {A} depth [] first sorted is long = λ k d within. absurd (omega (arith, within))
longer-all {A} depth (e ∷ es) first sorted is long = grind (arith, by)
  where
    by : (k : ℕ) (d : TrieEntry A) → k < length (e ∷ es) → (0 < k) ⊎ (k ≤ 0)
        → depth < length (get_or (e ∷ es) k d).key.items
    by k d within (inl behind) = longer-behind depth (e ∷ es) sorted k d behind within
    by zero d within (inr at) = subst (λ (f : TrieEntry A). depth < length f.key.items) is long
    by (suc k) d within (inr at) = absurd (omega (arith, at))

-- longer keys are not the one that ends at the letter
pub entry_for-longer : {A : Type 0} (depth : ℕ) (entries : List (TrieEntry A))
    → All (λ e. depth < length e.key.items) entries → entry_for depth entries [] ≡ None
entry_for-longer {A} depth [] longer = refl
entry_for-longer {A} depth (e ∷ es) longer =
    let long = λ (f : TrieEntry A). depth < length f.key.items in
    let here = All-head long e es longer in
    not_ended (drop depth e.key.items) (entry_for depth es []) (omega
    (arith, here, length-drop depth e.key.items))
    (entry_for-longer depth es (All-tail long e es longer))
  where
    not_ended : (key : List ℕ) (next : _) → 0 < length key → next ≡ None
        → cond (bytes_eq key []) (Some e.numbers.items) next ≡ None
    not_ended [] next some none = absurd (omega arith)
    not_ended (c ∷ cs) next some none = none

-- ---- keys that have ended, keys with one letter, and keys in two parts

pub entry_for-all_ended : {A : Type 0} (depth : ℕ) (entries : List (TrieEntry A)) (letter : ℕ) (key : List ℕ)
    → All (λ e. length e.key.items ≤ depth) entries → entry_for depth entries (letter ∷ key) ≡ None
entry_for-all_ended {A} depth [] letter key ended = refl
entry_for-all_ended {A} depth (e ∷ es) letter key ended =
    let end = λ (f : TrieEntry A). length f.key.items ≤ depth in
    rw (drop_all depth e.key.items (All-head end e es ended))
    (entry_for-all_ended depth es letter key (All-tail end e es ended))

-- the first of two that is there
abbrev pub first_of_two : Option (List ℕ) → Option (List ℕ) → Option (List ℕ)
first_of_two None other = other
first_of_two (Some numbers) other = Some numbers

pub entry_for-append : {A : Type 0} (depth : ℕ) (xs ys : List (TrieEntry A)) (key : List ℕ)
    → entry_for depth (xs ++ ys) key
    ≡ first_of_two (entry_for depth xs key) (entry_for depth ys key)
entry_for-append depth [] ys key = refl
entry_for-append depth (e ∷ xs) ys key = grind (arith, entry_for-append depth xs ys key)
  where
    by : (b : Bool)
        → entry_for depth (xs ++ ys) key
        ≡ first_of_two (entry_for depth xs key) (entry_for depth ys key)
        → cond b (Some e.numbers.items) (entry_for depth (xs ++ ys) key)
        ≡ first_of_two (cond b (Some e.numbers.items) (entry_for depth xs key))
        (entry_for depth ys key)
    by true next = refl
    by false next = next

-- a key that goes on with a letter, compared with one that does
compared : {A : Type 0} (depth letter other : ℕ) (e : TrieEntry A) (key : List ℕ) (b : Bool)
    → depth < length e.key.items → letter_at depth e ≡ letter → eqb letter other ≡ b
    → bytes_eq (drop depth e.key.items) (other ∷ key)
    ≡ b && bytes_eq (drop (depth + 1) e.key.items) key
compared depth letter other e key b long here is = grind (arith, drop_more)

-- keys with one letter at a place, looked up with that letter and with another one
pub entry_for-group : {A : Type 0} (depth letter : ℕ) (group : List (TrieEntry A)) (key : List ℕ)
    → All (λ e. depth < length e.key.items) group → All (λ e. letter_at depth e ≡ letter) group
    → entry_for depth group (letter ∷ key) ≡ entry_for (depth + 1) group key
entry_for-group {A} depth letter [] key longer same = refl
entry_for-group {A} depth letter (e ∷ es) key longer same =
    let long = λ (f : TrieEntry A). depth < length f.key.items in
    let one = λ (f : TrieEntry A). letter_at depth f ≡ letter in
    let here = compared depth letter letter e key true (All-head long e es longer)
    (All-head one e es same) (eq-eqb letter letter refl) in
    let next = entry_for-group depth letter es key (All-tail long e es longer)
    (All-tail one e es same) in
    ap (λ b. cond b (Some e.numbers.items) (entry_for depth es (letter ∷ key))) here
    ∙ ap (λ o. cond (bytes_eq (drop (depth + 1) e.key.items) key) (Some e.numbers.items) o) next

pub entry_for-other : {A : Type 0} (depth letter other : ℕ) (group : List (TrieEntry A)) (key : List ℕ)
    → All (λ e. depth < length e.key.items) group → All (λ e. letter_at depth e ≡ letter) group
    → letter ≢ other → entry_for depth group (other ∷ key) ≡ None
entry_for-other {A} depth letter other [] key longer same differs = refl
entry_for-other {A} depth letter other (e ∷ es) key longer same differs =
    let long = λ (f : TrieEntry A). depth < length f.key.items in
    let one = λ (f : TrieEntry A). letter_at depth f ≡ letter in
    let here = compared depth letter other e key false (All-head long e es longer)
    (All-head one e es same) (ne_eqb letter other differs) in
    ap (λ b. cond b (Some e.numbers.items) (entry_for depth es (other ∷ key))) here
    ∙ entry_for-other depth letter other es key (All-tail long e es longer)
    (All-tail one e es same) differs

-- ---- the order of a part

pub sorted-right : {A : Type 0} (depth : ℕ) (done left : List (TrieEntry A)) → AreSortedFrom depth (done ++ left)
    → AreSortedFrom depth left
sorted-right depth done left sorted = grind (arith, get_or-append-add, length-append)

pub sorted-take : {A : Type 0} (depth n : ℕ) (entries : List (TrieEntry A)) → AreSortedFrom depth entries
    → AreSortedFrom depth (take n entries)
sorted-take depth n entries sorted = grind (arith, length-take, get_or-take)

cmp-same : (x : ℕ) → nat_cmp x x ≡ Equal
cmp-same x = grind (arith, nat_tests)

-- keys with one letter at a place are in the order of what follows it
pub sorted-group : {A : Type 0} (depth letter : ℕ) (group : List (TrieEntry A)) → AreSortedFrom depth group
    → All (λ e. depth < length e.key.items) group → All (λ e. letter_at depth e ≡ letter) group
    → AreSortedFrom (depth + 1) group
sorted-group {A} depth letter group sorted longer same = λ i j d lt within.
    let first : i < length group = omega arith in
    let at = split i d first in
    let behind = split j d within in
    ap (λ o. is_lt (ordering_then o (slice_cmp nat_cmp
    (drop (depth + 1) (get_or group i d).key.items)
    (drop (depth + 1) (get_or group j d).key.items)))) (sym (cmp-same letter))
    ∙ ap₂ is_before (sym at) (sym behind) ∙ sorted i j d lt within
  where
    split : (k : ℕ) (d : TrieEntry A) → k < length group → drop depth (get_or group k d).key.items
        ≡ letter ∷ drop (depth + 1) (get_or group k d).key.items
    split k d within = grind (arith, drop_more)

-- of two keys in order, the letters do not fall
letter-up : (x y : ℕ) (xs ys : List ℕ) → is_before (x ∷ xs) (y ∷ ys) ≡ true → x ≤ y
letter-up x y xs ys before = by (ltb x y) (eqb x y) refl refl before
  where
    by : (b e : Bool) → ltb x y ≡ b → eqb x y ≡ e
        → is_lt (ordering_then (cond b Less (cond e Equal Greater)) (slice_cmp nat_cmp xs ys))
        ≡ true → x ≤ y
    by true e lt same order = let h = ltb-true x y lt in omega (arith, h)
    by false true lt same order = let h = eqb-true x y same in omega (arith, h)
    by false false lt same order = absurd (false≢true order)

pub letters-rise : {A : Type 0} (depth : ℕ) (left : List (TrieEntry A)) (j : ℕ) (d : TrieEntry A) → AreSortedFrom depth left
    → All (λ e. depth < length e.key.items) left → 0 < j → j < length left
    → letter_at depth (get_or left 0 d) ≤ letter_at depth (get_or left j d)
letters-rise depth left j d sorted longer behind within =
    let first = (get_or left 0 d).key.items in
    let other = (get_or left j d).key.items in
    let some : 0 < length left = omega arith in
    letter-up _ _ (drop (depth + 1) first) (drop (depth + 1) other)
    (ap₂ is_before (sym (drop_more first depth 0 (longer 0 d some)))
    (sym (drop_more other depth 0 (longer j d within))) ∙ sorted 0 j d behind within)
