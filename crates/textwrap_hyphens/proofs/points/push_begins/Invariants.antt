use Rattle.textwrap_hyphens.proofs.Common.{◌++◌, ◌≡◌, map, slice_index, take}
use Rattle.textwrap_hyphens.proofs.points.push_begins.Given as goal

abbrev pub invariant-loop-place : goal.invariant-loop-place
invariant-loop-place g l = l.points.items
    ≡ l.initial.points.items
    ++ map (λ place. slice_index (map (λ c. c.at) l.run) place) (take l.place-index l.places)
