use Rattle.textwrap_calls.proofs.columns.place_rows.Given as goal
use Rattle.textwrap_calls.proofs.Common.{map, string_bytes, ArePlacedRows}

-- the rows so far are placed
abbrev pub invariant-loop-row : goal.invariant-loop-row
invariant-loop-row l =
    ArePlacedRows (map string_bytes l.yielded) l.placed.places.items l.placed.built.items
