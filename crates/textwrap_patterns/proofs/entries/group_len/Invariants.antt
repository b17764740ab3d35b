use Rattle.std.proofs.Common.{◌≡◌, ◌<◌, ℕ, get_or}
use Rattle.textwrap_patterns.specs.{Entries.letter_at, declared.entries.TrieEntry.TrieEntry}
use Rattle.textwrap_patterns.proofs.entries.group_len.Given as goal

-- each entry so far has the letter
abbrev pub invariant-loop-i : goal.invariant-loop-i
invariant-loop-i g l =
    (k : ℕ) (d : TrieEntry g.row.A.Denot) → k < l.i → letter_at l.depth (get_or l.entries k d) ≡ l.letter
