use Rattle.std.proofs.Common.{◌≡◌, map, take}
use Rattle.textwrap_vectors.specs.Days.{day_view, day_of}
use Rattle.textwrap_vectors.proofs.scheduling.assign_days.Given as goal

-- the days of the lines so far
abbrev pub invariant-loop-line : goal.invariant-loop-line
invariant-loop-line g l =
    map day_view l.days.items ≡ map (λ line. day_of line.now) (take l.line-index l.line-items)
