use Rattle.std.proofs.Common.{◌≡◌, drop}
use Rattle.textwrap_patterns.specs.Trie.{numbers_below}
use Rattle.textwrap_patterns.proofs.lookup.Trie.numbers_for.Given as goal

-- what is left of the key leads from the node on to where the whole key leads
abbrev pub invariant-loop-letter : goal.invariant-loop-letter
invariant-loop-letter l =
    numbers_below (drop l.letter-index l.key) l.self.slots.now l.self.lists.now l.node
    ≡ numbers_below l.fn.key l.self.slots.now l.self.lists.now l.self.root
