use Rattle.std.proofs.Common.{suc, ℕ, ◌+◌, ◌<◌, ◌≡◌, get_or}
use Rattle.textwrap_patterns.specs.{Trie.empty_slot, Trie.slot_at, declared.slots.Child.Child}
use Rattle.textwrap_patterns.proofs.slots.is_free.Given as goal

-- the slots of the children so far are empty
abbrev pub invariant-loop-child : goal.invariant-loop-child
invariant-loop-child l =
    (k : ℕ) (d : Child) → k < l.child-index
    → slot_at l.slots (l.place + suc (get_or l.children k d).letter) ≡ empty_slot
