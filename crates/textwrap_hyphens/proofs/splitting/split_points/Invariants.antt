use Rattle.textwrap_hyphens.proofs.Common.{filter, length, range_with_len, ◌-◌, ◌≡◌, ◌≤◌}
use Rattle.textwrap_hyphens.specs.{Splitting.is_split_point, Table.held}
use Rattle.textwrap_hyphens.proofs.splitting.split_points.Given as goal

-- the points before this offset
abbrev pub invariant-loop-point : goal.invariant-loop-point
invariant-loop-point g l = record {
  points : l.points.items
      ≡ filter (is_split_point (held l.patterns) l.word) (range_with_len 1 (l.point - 1));
  inside : l.point - 1 ≤ length l.word - 1;
}
