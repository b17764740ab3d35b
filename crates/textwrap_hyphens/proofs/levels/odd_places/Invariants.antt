use Rattle.textwrap_hyphens.proofs.Common.{◌≡◌, ◌≤◌, ◌-◌, filter, length, range_with_len}
use Rattle.textwrap_hyphens.specs.{Hyphenation.is_odd, Table.levels_by}
use Rattle.textwrap_hyphens.proofs.levels.odd_places.Given as goal

-- the places so far
abbrev pub invariant-loop-place : goal.invariant-loop-place
invariant-loop-place g l = record {
  places : l.places.items
      ≡ filter (is_odd (levels_by l.patterns) l.letters) (range_with_len 1 (l.place - 1));
  inside : l.place - 1 ≤ length l.letters - 1;
}
