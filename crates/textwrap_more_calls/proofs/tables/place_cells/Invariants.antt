use Rattle.textwrap_more_calls.proofs.tables.place_cells.Given as goal
use Rattle.textwrap_calls.proofs.Common.{◌≡◌, ◌++◌, map, drop, shape_of}
use Rattle.textwrap_more_calls.specs.Tables.{shape_of_column}

-- the columns so far, and those that are left, have the shapes of all
abbrev pub invariant-loop-column : goal.invariant-loop-column
invariant-loop-column l =
    map shape_of l.shapes.items ++ map shape_of_column (drop l.column-index l.columns)
    ≡ map shape_of_column l.columns
