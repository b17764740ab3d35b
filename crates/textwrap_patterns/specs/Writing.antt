-- What stands in the slots and the lists of a trie once a part of it is written, whatever is written
-- behind that.
use Rattle.std.specs.Option.{option_map}
use Rattle.std.specs.Prelude.{◌≡◌, ◌≢◌, ℕ, suc, ◌+◌, ◌*◌, ◌<◌, ◌==◌, All, List, [], ◌∷◌, ◌++◌, Option, None, Some}
use Rattle.std.specs.Prelude.{if◌then◌else◌, slice_index}
use Rattle.textwrap_patterns.specs.{Entries.entry_for, Trie.child_at, Trie.child_of, Trie.empty_slot}
use Rattle.textwrap_patterns.specs.Trie.{list_of, lists_of, numbers_at, numbers_below, slot_at, slots_of}
use Rattle.textwrap_patterns.specs.declared.{entries.TrieEntry.TrieEntry, slots.Child.Child}

-- the slot of the last child with a letter, or another one
abbrev pub child_for : List Child → ℕ → ℕ → ℕ
child_for [] letter other = other
child_for (child ∷ children) letter other =
    child_for children letter (if child.letter == letter
    then child.node * 0x200000 + suc child.letter
    else other)

-- what children leave in a slot that held another one, where their parent has this place
abbrev pub slot_for : List Child → ℕ → ℕ → ℕ → ℕ
slot_for [] place at other = other
slot_for (child ∷ children) place at other =
    slot_for children place at (if at == place + suc child.letter
    then child.node * 0x200000 + suc child.letter
    else other)

-- the slots of a node at a place and of these children are empty
pub record AreFree (slots : List ℕ) (place : ℕ) (children : List Child) : Type 0 where
  pub own : slot_at slots place ≡ empty_slot
  pub others : All (λ child. slot_at slots (place + suc child.letter) ≡ empty_slot) children

-- where no node is, no slot holds a child of one
abbrev pub HaveParents : List ℕ → Type 0
HaveParents slots =
    (place letter : ℕ) → slot_at slots place ≡ empty_slot → child_at slots place letter ≡ empty_slot

-- the nodes of some slots are in others as they were
pub record IsLater (old new : List ℕ) : Type 0 where
  pub kept : (place : ℕ) → slot_at old place ≢ empty_slot → slot_at new place ≡ slot_at old place
  pub children : (place letter : ℕ) → slot_at old place ≢ empty_slot
      → child_at new place letter ≡ child_at old place letter

-- these numbers stand at a place
pub record IsList (numbers old new : List ℕ) (place : ℕ) : Type 0 where
  pub added : List ℕ
  pub grown : new ≡ old ++ added
  pub list : (more : List ℕ) → numbers_at (new ++ more) place ≡ numbers

-- these numbers stand at a place, or there are none
pub record IsListOf (numbers : Option (List ℕ)) (old new : List ℕ) (place : Option ℕ) : Type 0 where
  pub added : List ℕ
  pub grown : new ≡ old ++ added
  pub list : (more : List ℕ) → option_map (numbers_at (new ++ more)) place ≡ numbers

-- the kind of a node with children, and the place in its own slot: whether it has numbers at a place
abbrev pub IsKind : Option ℕ → ℕ → ℕ → Type 0
IsKind None list kind = kind ≡ 0
IsKind (Some at) list kind = (kind ≡ 1) × (list ≡ at)

-- what holds of a node, told by its kind and 4 times its place, with any code
abbrev pub WithCodes : ℕ → (ℕ → Type 0) → Type 0
WithCodes node Holds = (code : ℕ) → code < 0x200000 → Holds (node * 0x200000 + code)

-- a node has this place of its numbers, and these children
pub record IsNodeOf (numbers : Option ℕ) (children : List Child) (old new : List ℕ) (node : ℕ) : Type 0 where
  pub parents : HaveParents new
  pub later : IsLater old new
  pub list : (after : List ℕ) → IsLater new after
      → WithCodes node (λ slot. list_of after slot ≡ numbers)
  pub child : (after : List ℕ) (letter : ℕ) → IsLater new after
      → WithCodes node (λ slot. child_of after slot letter ≡ child_for children letter empty_slot)

-- the keys below a node are those of entries, from a letter on
abbrev pub IsTrie : {A : Type 0} → ℕ → List (TrieEntry A) → List ℕ → List ℕ → ℕ → Type 0
IsTrie depth entries slots lists node =
    (later more key : List ℕ) → IsLater slots later
    → WithCodes node (λ slot. numbers_below key later (lists ++ more) slot ≡ entry_for depth entries key)

-- at a place stands a trie with this slot of its root, these slots and these lists
pub record HoldsTrie (slot : ℕ) (slots lists old new : List ℕ) (root : ℕ) : Type 0 where
  pub added : List ℕ
  pub grown : new ≡ old ++ added
  pub root_is : (more : List ℕ) → slice_index (new ++ more) root ≡ slot
  pub slots_are : (more : List ℕ) → slots_of (new ++ more) root ≡ slots
  pub lists_are : (more : List ℕ) → lists_of (new ++ more) root ≡ lists ++ more
