-- Entries that are merged: those with one key become one entry, which stands before the others.
use Rattle.std.proofs.Common.{bytes_eq}
use Rattle.textwrap_patterns.proofs.FirstEntries.{entry_for-before, entry_for-behind}
use Rattle.textwrap_patterns.proofs.{GreatestNumbers.greatest-parts, KeyOrder.before-later}
use Rattle.textwrap_patterns.{proofs.KeyOrder.before-other, specs.Entries.AreSortedFrom}
use Rattle.textwrap_patterns.specs.{Entries.entry_for, Entries.is_before, Merging.AreInOrder}
use Rattle.textwrap_patterns.specs.Merging.{first_key, first_numbers, greatest, greatest_number}
use Rattle.textwrap_patterns.specs.{Merging.number_in, declared.entries.TrieEntry.TrieEntry}
use Rattle.textwrap_text.proofs.Common.{All, All-append, All-cons, All-drop, All-head, All-nil}
use Rattle.textwrap_text.proofs.Common.{All-tail, ap, append_assoc, arith, Bool, cond, drop, false}
use Rattle.textwrap_text.proofs.Common.{get_or, get_or-drop, length, length-drop, List, map, max}
use Rattle.textwrap_text.proofs.Common.{nat_eq, refl, Some, starts_with, suc, sym, take}
use Rattle.textwrap_text.proofs.Common.{take-append-drop, true, zero, ℕ, ◌+◌, ◌++◌, ◌<◌, ◌≤◌, ◌≡◌}
use Rattle.textwrap_text.proofs.Common.{◌≢◌, ◌∙◌, ◌∷◌, [], ◌⊎◌, inl, inr}

abbrev pub StandsBefore : {A : Type 0} → TrieEntry A → List (TrieEntry A) → Type 0
StandsBefore m es = All (λ e. is_before m.key.items e.key.items ≡ true) es

-- ---- parts of a list

pub ordered-drop : {A : Type 0} (n : ℕ) (es : List (TrieEntry A)) → AreInOrder es → AreInOrder (drop n es)
ordered-drop n es ordered = grind (arith, get_or-drop, length-drop)

pub first_key-at : {A : Type 0} (es : List (TrieEntry A)) (d : TrieEntry A) → 0 < length es
    → first_key es ≡ (get_or es 0 d).key.items
first_key-at [] d some = absurd (omega arith)
first_key-at (e ∷ es) d some = refl

pub first_key-take : {A : Type 0} (n : ℕ) (es : List (TrieEntry A)) → 0 < n → first_key (take n es) ≡ first_key es
first_key-take zero es some = absurd (omega arith)
first_key-take (suc n) [] some = refl
first_key-take (suc n) (e ∷ es) some = refl

pub first_numbers-take : {A : Type 0} (n : ℕ) (es : List (TrieEntry A)) → 0 < n
    → first_numbers (take n es) ≡ first_numbers es
first_numbers-take zero es some = absurd (omega arith)
first_numbers-take (suc n) [] some = refl
first_numbers-take (suc n) (e ∷ es) some = refl

-- the first key stands before those behind the ones that are the same
pub first-before : {A : Type 0} (es : List (TrieEntry A)) (n : ℕ) (x : TrieEntry A) → AreInOrder es → 0 < n
    → x.key.items ≡ first_key es
    → ((d : TrieEntry A) → n < length es → (get_or es n d).key.items ≢ first_key es)
    → StandsBefore x (drop n es)
first-before {A} es n x ordered some is next =
    grind (arith, length-drop, first_key-at, before-other, get_or-drop, by)
  where
    by : (k : ℕ) (d : TrieEntry A) → n + k < length es
        → is_before (first_key es) (get_or es n d).key.items ≡ true → (0 < k) ⊎ (k ≤ 0)
        → is_before (first_key es) (get_or es (n + k) d).key.items ≡ true
    by k d inside one (inl behind) = grind (arith, before-later)
    by k d inside one (inr here) = grind arith

-- ---- one entry more

-- all that is merged stands before the first key of what is left
pub before-first : {A : Type 0} (merged left : List (TrieEntry A)) (x : TrieEntry A) → 0 < length left
    → x.key.items ≡ first_key left → All (λ m. StandsBefore m left) merged
    → All (λ m. is_before m.key.items x.key.items ≡ true) merged
before-first merged left x some is before = λ k d within.
    rw (is, first_key-at left d some) (before k d within 0 d some)

sorted-cons : {A : Type 0} (m : TrieEntry A) (es : List (TrieEntry A)) → StandsBefore m es → AreSortedFrom 0 es
    → AreSortedFrom 0 (m ∷ es)
sorted-cons m es before sorted zero zero d below within = absurd (omega arith)
sorted-cons m es before sorted zero (suc j) d below within = before j d (omega (arith, within))
sorted-cons m es before sorted (suc i) zero d below within = absurd (omega arith)
sorted-cons m es before sorted (suc i) (suc j) d below within = grind arith

pub sorted-more : {A : Type 0} (merged : List (TrieEntry A)) (x : TrieEntry A) → AreSortedFrom 0 merged
    → All (λ m. is_before m.key.items x.key.items ≡ true) merged
    → AreSortedFrom 0 (merged ++ x ∷ [])
sorted-more {A} [] x sorted before = λ i j d below within. absurd (omega (arith, within))
sorted-more {A} (m ∷ merged) x sorted before =
    let here = λ (e : TrieEntry A). is_before e.key.items x.key.items ≡ true in
    let after = λ (e : TrieEntry A). is_before m.key.items e.key.items ≡ true in
    sorted-cons m (merged ++ x ∷ [])
    (All-append after merged (x ∷ [])
    (λ k d within. sorted 0 (suc k) d (omega arith) (omega (arith, within)))
    (All-cons after x [] (All-head here m merged before) (All-nil after)))
    (sorted-more merged x
    (λ i j d below within. sorted (suc i) (suc j) d (omega (arith, below)) (omega (arith, within)))
    (All-tail here m merged before))

pub before-more : {A : Type 0} (merged left : List (TrieEntry A)) (x : TrieEntry A) (n : ℕ)
    → All (λ m. StandsBefore m left) merged → StandsBefore x (drop n left)
    → All (λ m. StandsBefore m (drop n left)) (merged ++ x ∷ [])
before-more {A} merged left x n before here =
    let all = λ (m : TrieEntry A). StandsBefore m (drop n left) in
    All-append all merged (x ∷ [])
    (λ k d within. All-drop (λ e. is_before (get_or merged k d).key.items e.key.items ≡ true) n
    left (before k d within))
    (All-cons all x [] here (All-nil all))

-- ---- what is the first with a key

entry_for-one : {A : Type 0} (key : List ℕ) (x e : TrieEntry A) (es rest : List (TrieEntry A)) (b : Bool)
    → bytes_eq e.key.items key ≡ b → x.key.items ≡ e.key.items
    → x.numbers.items ≡ e.numbers.items → All (λ f. f.key.items ≡ e.key.items) es
    → entry_for 0 (x ∷ rest) key ≡ entry_for 0 (e ∷ es ++ rest) key
entry_for-one key x e es rest true is keys numbers same = rw (keys, is) (ap Some numbers)
entry_for-one key x e es rest false is keys numbers same = grind (arith, entry_for-behind)

-- an entry for all that have the same key, with the numbers of the first
pub first-more : {A : Type 0} (key : List ℕ) (merged left : List (TrieEntry A)) (x : TrieEntry A) (n : ℕ)
    → 0 < n → n ≤ length left → x.key.items ≡ first_key left
    → x.numbers.items ≡ first_numbers left
    → All (λ e. e.key.items ≡ first_key left) (take n left)
    → entry_for 0 ((merged ++ x ∷ []) ++ drop n left) key ≡ entry_for 0 (merged ++ left) key
first-more key merged [] x n some within keys numbers same = absurd (omega (arith, within))
first-more key merged (e ∷ es) x zero some within keys numbers same = absurd (omega arith)
first-more key merged (e ∷ es) x (suc n) some within keys numbers same =
    ap (λ l. entry_for 0 l key) (append_assoc merged (x ∷ []) (drop n es))
    ∙ entry_for-before key merged (x ∷ drop n es) (e ∷ es)
    (entry_for-one key x e (take n es) (drop n es) (bytes_eq e.key.items key) refl keys numbers
    (All-tail (λ f. f.key.items ≡ e.key.items) e (take n es) same)
    ∙ ap (λ l. entry_for 0 (e ∷ l) key) (take-append-drop n es))

-- ---- the greatest numbers

in_same : {A : Type 0} (key text : List ℕ) (place : ℕ) (es : List (TrieEntry A))
    → All (λ e. e.key.items ≡ key) es → (b : Bool) → starts_with nat_eq text key ≡ b
    → greatest (map (λ e. number_in e text place) es)
    ≡ cond b (greatest (map (λ e. get_or e.numbers.items place 0) es)) 0
in_same {A} key text place [] same true is = refl
in_same {A} key text place [] same false is = refl
in_same {A} key text place (e ∷ es) same true is =
    let has = λ (f : TrieEntry A). f.key.items ≡ key in
    let here = All-head has e es same in
    rw (here, is) (ap (max (get_or e.numbers.items place 0))
    (in_same key text place es (All-tail has e es same) true is))
in_same {A} key text place (e ∷ es) same false is =
    let has = λ (f : TrieEntry A). f.key.items ≡ key in
    let here = All-head has e es same in
    rw (here, is) (ap (max 0)
    (in_same key text place es (All-tail has e es same) false is))

in_one : {A : Type 0} (x : TrieEntry A) (text : List ℕ) (place : ℕ) (es : List (TrieEntry A))
    → All (λ e. e.key.items ≡ x.key.items) es
    → get_or x.numbers.items place 0 ≡ greatest (map (λ e. get_or e.numbers.items place 0) es)
    → number_in x text place ≡ greatest_number es text place
in_one x text place es same is = grind (arith, in_same)

-- an entry for all that have the same key, with the greatest number at each place
pub greatest_number-more : {A : Type 0} (text : List ℕ) (place : ℕ) (merged left : List (TrieEntry A)) (x : TrieEntry A)
    (n : ℕ) → x.key.items ≡ first_key left
    → ((place : ℕ) → get_or x.numbers.items place 0
    ≡ greatest (map (λ e. get_or e.numbers.items place 0) (take n left)))
    → All (λ e. e.key.items ≡ first_key left) (take n left)
    → greatest_number ((merged ++ x ∷ []) ++ drop n left) text place
    ≡ greatest_number (merged ++ left) text place
greatest_number-more {A} text place merged left x n key numbers same =
    let f = λ (e : TrieEntry A). number_in e text place in
    let shared : All (λ e. e.key.items ≡ x.key.items) (take n left) =
    λ k d within. same k d within ∙ sym key in
    let one = in_one x text place (take n left) shared (numbers place) in
    let a = greatest-parts f (merged ++ x ∷ []) (drop n left) in
    let b = greatest-parts f merged (x ∷ []) in
    let c = greatest-parts f merged left in
    let d = greatest-parts f (take n left) (drop n left) in
    let e = ap (λ l. greatest (map f l)) (take-append-drop n left) in
    omega (arith, one, a, b, c, d, e)
