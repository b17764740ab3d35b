use Rattle.std.proofs.Common.{ℕ, ◌≡◌, List, All, length, ◌++◌}
use Rattle.textwrap_patterns.{proofs.MergedEntries.StandsBefore, specs.Entries.AreSortedFrom}
use Rattle.textwrap_patterns.specs.{Entries.entry_for, Merging.AreInOrder, Merging.greatest_number}
use Rattle.textwrap_patterns.specs.declared.merging.Rule.TheVariants.{First, Greatest}
use Rattle.textwrap_patterns.proofs.merging.merged.Given as goal

-- what is merged stands before what is left, and both together are the entries
abbrev pub invariant-loop-left : goal.invariant-loop-left
invariant-loop-left g l = record {
  ordered : AreInOrder l.left;
  sorted : AreSortedFrom 0 l.merged.items;
  before : All (λ m. StandsBefore m l.left) l.merged.items;
  first : l.rule ≡ First → (key : List ℕ)
      → entry_for 0 (l.merged.items ++ l.left) key ≡ entry_for 0 l.fn.entries key;
  greatest : l.rule ≡ Greatest → (text : List ℕ) (place : ℕ)
      → greatest_number (l.merged.items ++ l.left) text place
      ≡ greatest_number l.fn.entries text place;
}

abbrev pub decreases-loop-left : goal.decreases-loop-left
decreases-loop-left g l = length l.left
