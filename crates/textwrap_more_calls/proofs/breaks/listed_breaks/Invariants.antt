use Rattle.textwrap_more_calls.proofs.breaks.listed_breaks.Given as goal
use Rattle.textwrap_more_calls.specs.Breaks.{break_place, break_places}
use Rattle.textwrap_text.proofs.Common.{map, ◌++◌, ◌≡◌}

-- the places so far and those to come are all places
abbrev pub invariant-loop-place : goal.invariant-loop-place
invariant-loop-place l =
    l.breaks.items ++ map break_place l.place-iterator ≡ break_places l.fn.numbers l.text
