-- The first entry with a key: among parts of a list, where keys differ, and in a stable sort.
use Rattle.std.proofs.{Common.bytes_eq, lemmas.List.Sorted.All-permutation}
use Rattle.std.proofs.lemmas.Slice.Eq.{bytes_eq-Decides}
use Rattle.std.specs.List.Sorted.{IsPermutation, IsStableBy, ties}
use Rattle.textwrap_patterns.proofs.KeyOrder.{behind-other, ties-same}
use Rattle.textwrap_patterns.specs.Entries.{AreSortedFrom, entry_for, is_before}
use Rattle.textwrap_patterns.specs.declared.entries.TrieEntry.{TrieEntry}
use Rattle.textwrap_text.proofs.Common.{All, All-cons, All-head, All-nil, All-tail, ap, append-nil}
use Rattle.textwrap_text.proofs.Common.{arith, Bool, false, filter, get_or, inl, inr, List, None}
use Rattle.textwrap_text.proofs.Common.{refl, rules, suc, sym, true, ℕ, ⊎_elim, ◌++◌, ◌≡◌, ◌∙◌, ◌∷◌}
use Rattle.textwrap_text.proofs.Common.{◌⊎◌, []}

abbrev pub HasOther : {A : Type 0} → List ℕ → TrieEntry A → Type 0
HasOther key e = bytes_eq e.key.items key ≡ false

-- ---- parts of a list

pub entry_for-behind : {A : Type 0} (key : List ℕ) (es rest : List (TrieEntry A)) → All (HasOther key) es
    → entry_for 0 (es ++ rest) key ≡ entry_for 0 rest key
entry_for-behind key [] rest others = refl
entry_for-behind key (e ∷ es) rest others =
    grind (arith, entry_for-behind key es rest (All-tail (HasOther key) e es others), All-head)

pub entry_for-before : {A : Type 0} (key : List ℕ) (es xs ys : List (TrieEntry A))
    → entry_for 0 xs key ≡ entry_for 0 ys key
    → entry_for 0 (es ++ xs) key ≡ entry_for 0 (es ++ ys) key
entry_for-before key [] xs ys same = same
entry_for-before key (e ∷ es) xs ys same = grind (arith, entry_for-before key es xs ys same)

pub entry_for-none : {A : Type 0} (key : List ℕ) (es : List (TrieEntry A)) → All (HasOther key) es
    → entry_for 0 es key ≡ None
entry_for-none key es others = grind (arith, append-nil es, entry_for-behind key es [] others)

-- ---- keys that differ

-- where keys stand in order and differ, none behind the first is its key
pub others-behind : {A : Type 0} (e : TrieEntry A) (es : List (TrieEntry A)) → AreSortedFrom 0 (e ∷ es)
    → All (HasOther e.key.items) es
others-behind e es sorted = λ k d within.
    behind-other e.key.items (get_or es k d).key.items
    (sorted 0 (suc k) d (omega arith) (omega (arith, within)))

-- ---- a stable sort

abbrev pub stands_before : {A : Type 0} → TrieEntry A → TrieEntry A → Bool
stands_before e f = is_before e.key.items f.key.items

ties-here : {A : Type 0} (key : List ℕ) (x e : TrieEntry A) → x.key.items ≡ key
    → ties stands_before x e ≡ bytes_eq e.key.items key
ties-here key x e is = ties-same x.key.items e.key.items ∙ ap (bytes_eq e.key.items) is

-- only those that tie with one that has the key count
first-ties : {A : Type 0} (key : List ℕ) (x : TrieEntry A) → x.key.items ≡ key → (es : List (TrieEntry A))
    → entry_for 0 (filter (ties stands_before x) es) key ≡ entry_for 0 es key
first-ties key x is [] = refl
first-ties key x is (e ∷ es) = grind (arith, first-ties key x is es, ties-here)

one-more : {A : Type 0} (key : List ℕ) (e : TrieEntry A) (es : List (TrieEntry A)) (b : Bool) → bytes_eq e.key.items key ≡ b
    → All (HasOther key) es ⊎ ((x : TrieEntry A) × (bytes_eq x.key.items key ≡ true))
    → All (HasOther key) (e ∷ es) ⊎ ((x : TrieEntry A) × (bytes_eq x.key.items key ≡ true))
one-more key e es true is rest = inr (e, is)
one-more key e es false is (inl none) = inl (All-cons (HasOther key) e es is none)
one-more key e es false is (inr found) = inr found

one-or-none : {A : Type 0} (key : List ℕ) (es : List (TrieEntry A))
    → All (HasOther key) es ⊎ ((x : TrieEntry A) × (bytes_eq x.key.items key ≡ true))
one-or-none key [] = inl (All-nil (HasOther key))
one-or-none key (e ∷ es) =
    one-more key e es (bytes_eq e.key.items key) refl (one-or-none key es)

pub first-stable : {A : Type 0} (key : List ℕ) (es fs : List (TrieEntry A)) → IsPermutation es fs
    → IsStableBy stands_before es fs → entry_for 0 fs key ≡ entry_for 0 es key
first-stable {A} key es fs moved stable =
    ⊎_elim {C = entry_for 0 fs key ≡ entry_for 0 es key}
    (λ (none : All (HasOther key) es).
    entry_for-none key fs (All-permutation (HasOther key) es fs moved none)
    ∙ sym (entry_for-none key es none))
    (λ (found : (x : TrieEntry A) × (bytes_eq x.key.items key ≡ true)).
    let same : found.0.key.items ≡ key = search (rules, bytes_eq-Decides) in
    sym (first-ties key found.0 same fs) ∙ ap (λ l. entry_for 0 l key) (stable found.0)
    ∙ first-ties key found.0 same es)
    (one-or-none key es)
