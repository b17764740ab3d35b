use Rattle.std.proofs.Common.{ℕ, ◌≡◌, map, max, get_or, take}
use Rattle.textwrap_patterns.specs.Merging.{first_numbers, greatest}
use Rattle.textwrap_patterns.specs.declared.entries.TrieEntry.{TrieEntry}
use Rattle.textwrap_patterns.proofs.merging.merged_group.Given as goal

-- the numbers of the first entry are raised to those of the entries so far
abbrev pub invariant-loop-entry : goal.invariant-loop-entry
invariant-loop-entry g l = (place : ℕ) → get_or l.numbers.items place 0
    ≡ max (get_or (first_numbers l.group) place 0)
    (greatest (map (λ (f : TrieEntry g.row.A.Denot). get_or f.numbers.items place 0) (take l.entry-index l.group)))
