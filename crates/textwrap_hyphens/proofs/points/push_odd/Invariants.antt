use Rattle.textwrap_hyphens.proofs.Common.{◌++◌, ◌≡◌, ◌≤◌, ◌-◌, filter, length, range_with_len}
use Rattle.textwrap_hyphens.specs.{Hyphenation.is_place, Points.points_at, Table.held}
use Rattle.textwrap_hyphens.proofs.points.push_odd.Given as goal

-- the points so far
abbrev pub invariant-loop-place : goal.invariant-loop-place
invariant-loop-place g l = record {
  points : l.points.items ≡ l.initial.points.items
      ++ points_at l.run (filter (is_place (held l.patterns) l.letters 0 (length l.letters))
      (range_with_len 1 (l.place - 1)));
  inside : l.place - 1 ≤ length l.letters - 1;
}
