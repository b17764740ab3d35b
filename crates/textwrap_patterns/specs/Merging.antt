-- What entries say together: of those with one key the first, or the greatest number at each place.
use Rattle.std.specs.List.{starts_with}
use Rattle.std.specs.Prelude.{◌≡◌, ℕ, ◌<◌, List, [], ◌∷◌, ◌++◌, false, if◌then◌else◌, length, map}
use Rattle.std.specs.Prelude.{max, nat_eq, slice_index, slice_index_or}
use Rattle.textwrap_patterns.specs.{Entries.is_before, declared.entries.TrieEntry.TrieEntry}

abbrev pub greatest : List ℕ → ℕ
greatest [] = 0
greatest (n ∷ ns) = max n (greatest ns)

-- the number of an entry at a place, where a text begins with its key, else 0
abbrev pub number_in : {A : Type 0} → TrieEntry A → List ℕ → ℕ → ℕ
number_in e text place =
    if starts_with nat_eq text e.key.items then slice_index e.numbers.items place else 0

-- the greatest number at a place of the entries with whose keys a text begins
abbrev pub greatest_number : {A : Type 0} → List (TrieEntry A) → List ℕ → ℕ → ℕ
greatest_number entries text place = greatest (map (λ e. number_in e text place) entries)

-- the one list begins with the other
abbrev pub Grows : List ℕ → List ℕ → Type 0
Grows old new = (added : List ℕ) × (new ≡ old ++ added)

-- no key stands before that of an earlier entry
abbrev pub AreInOrder : {A : Type 0} → List (TrieEntry A) → Type 0
AreInOrder {A} entries =
    (i j : ℕ) (d : TrieEntry A) → i < j → j < length entries
    → is_before (slice_index_or entries j d).key.items (slice_index_or entries i d).key.items
    ≡ false

abbrev pub first_key : {A : Type 0} → List (TrieEntry A) → List ℕ
first_key [] = []
first_key (e ∷ es) = e.key.items

abbrev pub first_numbers : {A : Type 0} → List (TrieEntry A) → List ℕ
first_numbers [] = []
first_numbers (e ∷ es) = e.numbers.items
