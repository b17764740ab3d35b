-- What a trie is made of: keys, each with its numbers.
use Rattle.std.specs.{Cmp.Lexicographic.slice_cmp, Ordering.is_lt, Ordering.nat_cmp}
use Rattle.std.specs.Prelude.{◌≡◌, ◌≢◌, ℕ, ◌<◌, ◌≤◌, All, Bool, true, List, [], ◌∷◌, Option, None, Some, bytes_eq}
use Rattle.std.specs.Prelude.{drop, if◌then◌else◌, length, slice_index, slice_index_or, take}
use Rattle.textwrap_patterns.specs.declared.entries.TrieEntry.{TrieEntry}

-- the numbers of the first entry with this key, from a letter on
abbrev pub entry_for : {A : Type 0} → ℕ → List (TrieEntry A) → List ℕ → Option (List ℕ)
entry_for depth [] key = None
entry_for depth (e ∷ es) key =
    if bytes_eq (drop depth e.key.items) key then Some e.numbers.items else entry_for depth es key

-- the one stands before the other in a dictionary
abbrev pub is_before : List ℕ → List ℕ → Bool
is_before xs ys = is_lt (slice_cmp nat_cmp xs ys)

-- from a letter on, each key stands before all later ones
abbrev pub AreSortedFrom : {A : Type 0} → ℕ → List (TrieEntry A) → Type 0
AreSortedFrom {A} depth entries =
    (i j : ℕ) (d : TrieEntry A) → i < j → j < length entries
    → is_before (drop depth (slice_index_or entries i d).key.items)
    (drop depth (slice_index_or entries j d).key.items)
    ≡ true

abbrev pub letter_at : {A : Type 0} → ℕ → TrieEntry A → ℕ
letter_at depth e = slice_index e.key.items depth

-- so many first entries have one letter at a place, and the next has another
pub record IsGroupOf {A : Type 0} (depth : ℕ) (entries : List (TrieEntry A)) (len : ℕ) : Type 0 where
  pub some : 0 < len
  pub within : len ≤ length entries
  pub same : (d : TrieEntry A) → All (λ e. letter_at depth e
      ≡ letter_at depth (slice_index_or entries 0 d))
      (take len entries)
  pub next : (d : TrieEntry A) → len < length entries
      → letter_at depth (slice_index_or entries len d) ≢ letter_at depth (slice_index_or entries 0 d)
