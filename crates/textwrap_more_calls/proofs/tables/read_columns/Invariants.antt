use Rattle.textwrap_more_calls.proofs.tables.read_columns.Given as goal
use Rattle.textwrap_calls.proofs.Common.{drop, map, ◌++◌, ◌≡◌}
use Rattle.textwrap_more_calls.specs.Tables.{parts_of_column}
use Rattle.textwrap_plain.specs.Tables.{plain_parts}

-- the columns so far, and those that are left, have the parts of all
abbrev pub invariant-loop-column : goal.invariant-loop-column
invariant-loop-column l =
    map plain_parts l.columns.items ++ map parts_of_column (drop l.column-index l.given)
    ≡ map parts_of_column l.given
