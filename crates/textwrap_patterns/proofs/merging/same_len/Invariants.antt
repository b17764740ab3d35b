use Rattle.std.proofs.Common.{◌≡◌, ◌<◌, ℕ, get_or}
use Rattle.textwrap_patterns.specs.{Merging.first_key, declared.entries.TrieEntry.TrieEntry}
use Rattle.textwrap_patterns.proofs.merging.same_len.Given as goal

-- each entry so far has the key of the first one
abbrev pub invariant-loop-i : goal.invariant-loop-i
invariant-loop-i g l = record {
  first : l.key ≡ first_key l.entries;
  same : (k : ℕ) (d : TrieEntry g.row.A.Denot) → k < l.i → (get_or l.entries k d).key.items ≡ l.key;
}
