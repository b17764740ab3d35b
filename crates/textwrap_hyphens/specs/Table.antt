-- A dictionary, and what stands in it, as what its numbers say.
pub use Rattle.textwrap_hyphens.specs.Numbers.{held_in, levels_at}
use Rattle.std.specs.Prelude.{ℕ, List, take}
use Rattle.textwrap_hyphens.specs.{Hyphenation.Hyphenation, declared.dictionary.Patterns.Patterns}
use Rattle.textwrap_hyphens.specs.declared.table.PatternTable.{PatternTable}
use Rattle.textwrap_hyphens.specs.declared.table.PatternTrie.{PatternTrie}
use Rattle.textwrap_patterns.specs.{Trie.trie_level, Tries.trie_view}

-- what some patterns say of the levels of a text
abbrev pub levels_by : PatternTrie → List ℕ → ℕ → ℕ
levels_by t text place = trie_level (trie_view t.trie) (take t.longest text) place

abbrev pub held : PatternTable → Hyphenation
held table = record (held_in table.words.now table.in_parts) {
  left = table.left;
  right = table.right;
  soft_hyphens = table.soft_hyphens;
}

abbrev pub patterns_view : {A : Type 0} → Patterns A → Hyphenation
patterns_view patterns = held_in patterns.words.items patterns.in_parts
