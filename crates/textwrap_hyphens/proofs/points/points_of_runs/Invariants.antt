use Rattle.textwrap_hyphens.proofs.Common.{◌++◌, ◌≡◌, ◌-◌, ◌≤◌, drop, length}
use Rattle.textwrap_hyphens.specs.{Points.points_past, Table.held}
use Rattle.textwrap_hyphens.proofs.points.points_of_runs.Given as goal

-- the points so far, and those of the characters to come, are all
abbrev pub invariant-loop-at : goal.invariant-loop-at
invariant-loop-at g l = record {
  points : l.points.items ++ points_past (held l.patterns) 0 (drop l.at l.letters)
      ≡ points_past (held l.patterns) 0 l.letters;
  inside : l.at ≤ length l.letters;
}

abbrev pub decreases-loop-at : goal.decreases-loop-at
decreases-loop-at g l = length l.letters - l.at
