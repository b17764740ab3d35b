use Rattle.std.proofs.Common.{ℕ, ◌+◌, ◌-◌, ◌≡◌, length}
use Rattle.textwrap_patterns.specs.Trie.{slot_at}
use Rattle.textwrap_patterns.proofs.slots.put.Given as goal

-- no slot has changed, as those past the end are empty
abbrev pub invariant-loop-slots : goal.invariant-loop-slots
invariant-loop-slots g l = (at : ℕ) → slot_at l.slots.items at ≡ slot_at l.fn.slots.items at

abbrev pub decreases-loop-slots : goal.decreases-loop-slots
decreases-loop-slots g l = l.place + 1 - length l.slots.items
