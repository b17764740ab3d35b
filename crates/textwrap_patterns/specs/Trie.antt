-- A trie in a list of numbers. At its place stands the slot of its root, then how many slots it has, then
-- these, then lists of numbers, each behind its length.
--
-- A slot holds a node: a code, 2^21 times a kind, and 2^23 times a place. A node of kind 0 has children, of
-- kind 1 children and numbers, of kind 2 numbers, and of kind 3 neither. Without children its place is that
-- of its list of numbers. Else it is that of a slot of its own, whose place is that of the list; and the
-- child for a letter stands so many slots behind that one as its code says, the letter and 1. So a slot
-- with a child is that of the node whose place is as far before it as the code says.
use Rattle.std.specs.Option.{option_map}
use Rattle.std.specs.Prelude.{ℕ, suc, ◌+◌, ◌/◌, ◌%◌, ◌==◌, List, [], ◌∷◌, Option, None, Some, drop}
use Rattle.std.specs.Prelude.{if◌then◌else◌, length, max, nat_lt, slice_index, slice_index_or, take, unwrap_or}

-- the list that stands at a place: how many numbers it has, then these
abbrev pub numbers_at : List ℕ → ℕ → List ℕ
numbers_at words at = take (slice_index words at) (drop (suc at) words)

abbrev pub kind_of : ℕ → ℕ
kind_of slot = slot / 0x200000 % 4

abbrev pub place_of : ℕ → ℕ
place_of slot = slot / 0x800000

-- an empty slot: of kind 3, with a code that no letter has
abbrev pub empty_slot : ℕ
empty_slot = 0x7FFFFF

-- the slot at a place: those past the end are empty
abbrev pub slot_at : List ℕ → ℕ → ℕ
slot_at slots at = slice_index_or slots at empty_slot

-- the slot, if it has the code of a letter, else an empty one
abbrev pub child_in : ℕ → ℕ → ℕ
child_in slot letter = if slot % 0x200000 == suc letter then slot else empty_slot

-- the child for a letter of a node with children, by its place
abbrev pub child_at : List ℕ → ℕ → ℕ → ℕ
child_at slots place letter = child_in (slot_at slots (place + suc letter)) letter

-- the child of a node for a letter
abbrev pub child_of : List ℕ → ℕ → ℕ → ℕ
child_of slots node letter =
    if nat_lt (kind_of node) 2 then child_at slots (place_of node) letter else empty_slot

-- the place of a node's list of numbers
abbrev pub list_of : List ℕ → ℕ → Option ℕ
list_of slots node =
    if kind_of node == 1 then Some (place_of (slot_at slots (place_of node)))
    else if kind_of node == 2 then Some (place_of node)
    else None

-- the numbers of a node
abbrev pub numbers_of : List ℕ → List ℕ → ℕ → Option (List ℕ)
numbers_of slots lists node = option_map (numbers_at lists) (list_of slots node)

-- the numbers of a key below a node
abbrev pub numbers_below : List ℕ → List ℕ → List ℕ → ℕ → Option (List ℕ)
numbers_below [] slots lists node = numbers_of slots lists node
numbers_below (c ∷ cs) slots lists node = numbers_below cs slots lists (child_of slots node c)

-- the number of a node at a place, or 0
abbrev pub level_at : List ℕ → List ℕ → ℕ → ℕ → ℕ
level_at slots lists node place = slice_index (unwrap_or (numbers_of slots lists node) []) place

-- the greatest number at a place that a key below a node has with which a text begins
abbrev pub level_below : List ℕ → List ℕ → List ℕ → ℕ → ℕ → ℕ
level_below [] slots lists node place = level_at slots lists node place
level_below (c ∷ cs) slots lists node place =
    max (level_at slots lists node place)
    (level_below cs slots lists (child_of slots node c) place)

-- ---- in the list of numbers

-- a trie: its root, its slots and its lists
pub record TrieNumbers : Type 0 where
  pub root : ℕ
  pub slots : List ℕ
  pub lists : List ℕ

abbrev pub slots_of : List ℕ → ℕ → List ℕ
slots_of words at = numbers_at words (at + 1)

abbrev pub lists_of : List ℕ → ℕ → List ℕ
lists_of words at = drop (at + 2 + length (slots_of words at)) words

-- the trie at a place
abbrev pub trie_at : List ℕ → ℕ → TrieNumbers
trie_at words at =
    record { root = slice_index words at; slots = slots_of words at; lists = lists_of words at }

-- the numbers of a key in a trie
abbrev pub numbers_in : TrieNumbers → List ℕ → Option (List ℕ)
numbers_in trie key = numbers_below key trie.slots trie.lists trie.root

-- the greatest number at a place that a key of a trie has with which a text begins
abbrev pub trie_level : TrieNumbers → List ℕ → ℕ → ℕ
trie_level trie text place = level_below text trie.slots trie.lists trie.root place

abbrev pub numbers_for : List ℕ → List ℕ → ℕ → Option (List ℕ)
numbers_for key words at = numbers_in (trie_at words at) key

abbrev pub level_from : List ℕ → List ℕ → ℕ → ℕ → ℕ
level_from text words at place = trie_level (trie_at words at) text place
