-- A trie of the program, as its numbers.
use Rattle.textwrap_patterns.specs.{Trie.TrieNumbers, declared.lookup.Trie.Trie}

abbrev pub trie_view : Trie → TrieNumbers
trie_view trie = record { root = trie.root; slots = trie.slots.now; lists = trie.lists.now }
