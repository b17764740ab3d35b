use Rattle.std.proofs.Common.{All, take, ℕ, ◌≡◌, ◌<◌}
use Rattle.textwrap_patterns.specs.{Trie.slot_at, Writing.slot_for}
use Rattle.textwrap_patterns.proofs.slots.put_children.Given as goal

-- the children so far are in their slots, and their letters are letters
abbrev pub invariant-loop-child : goal.invariant-loop-child
invariant-loop-child g l = record {
  put : (at : ℕ) → slot_at l.slots.items at
      ≡ slot_for (take l.child-index l.children) l.place at (slot_at l.fn.slots.items at);
  letters : All (λ c. c.letter < 0x110000) (take l.child-index l.children);
}
