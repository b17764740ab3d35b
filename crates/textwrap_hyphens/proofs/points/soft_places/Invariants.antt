use Rattle.textwrap_hyphens.proofs.Common.{◌≡◌, ◌≤◌, ◌-◌, filter, length, map, range_with_len, slice_index}
use Rattle.textwrap_hyphens.specs.Points.{is_behind_soft}
use Rattle.textwrap_hyphens.proofs.points.soft_places.Given as goal

-- the places so far
abbrev pub invariant-loop-place : goal.invariant-loop-place
invariant-loop-place g l = record {
  places : l.places.items
      ≡ filter (λ place. is_behind_soft l.word (slice_index (map (λ c. c.at) l.letters) place))
      (range_with_len 1 (l.place - 1));
  inside : l.place - 1 ≤ length l.letters - 1;
}
