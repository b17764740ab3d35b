use Rattle.std.proofs.Common.{drop, get_or, length, max, ℕ, ◌<◌, ◌≡◌}
use Rattle.textwrap_patterns.specs.Trie.{level_below}
use Rattle.textwrap_patterns.proofs.lookup.raise_along.Given as goal

-- what is left of the text raises the levels so far to those to which the whole text raises them
abbrev pub invariant-loop-i : goal.invariant-loop-i
invariant-loop-i l =
    (k : ℕ) → k < length l.initial.levels
    → max (get_or l.levels k 0) (level_below (drop l.i l.text) l.slots l.lists l.node k)
    ≡ max (get_or l.initial.levels k 0) (level_below l.fn.text l.fn.slots l.fn.lists l.fn.root k)
