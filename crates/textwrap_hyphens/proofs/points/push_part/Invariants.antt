use Rattle.textwrap_hyphens.proofs.Common.{◌++◌, ◌≡◌, ◌≤◌, ◌-◌, ◌+◌, filter, range_with_len}
use Rattle.textwrap_hyphens.specs.{Hyphenation.is_place, Table.held}
use Rattle.textwrap_hyphens.proofs.points.push_part.Given as goal

-- the places so far
abbrev pub invariant-loop-place : goal.invariant-loop-place
invariant-loop-place g l = record {
  places : l.places.items ≡ l.initial.places.items
      ++ filter (is_place (held l.patterns) l.letters l.from l.to)
      (range_with_len (l.from + 1) (l.place - l.from - 1));
  inside : l.place - l.from - 1 ≤ l.to - l.from - 1;
  ahead : l.from + 1 ≤ l.place;
}
