use Rattle.textwrap_calls.proofs.texts.place_all.Given as goal
use Rattle.textwrap_calls.proofs.Common.{texts_of, ArePlacedRows}

-- the lines so far are placed
abbrev pub invariant-loop-line : goal.invariant-loop-line
invariant-loop-line l =
    ArePlacedRows (texts_of l.yielded) l.placed.places.items l.placed.built.items
