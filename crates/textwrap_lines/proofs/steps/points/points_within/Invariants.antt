use Rattle.textwrap_lines.proofs.steps.points.points_within.Given as goal
use Rattle.textwrap_lines.proofs.Common.{map, take, ◌-◌, ◌≡◌}

-- the first points are found
abbrev pub invariant-loop-point : goal.invariant-loop-point
invariant-loop-point g l = l.inner.items ≡ map (λ p. p - l.start) (take l.point-index l.inside)
