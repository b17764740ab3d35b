use Rattle.textwrap_more_calls.proofs.tables.are_known_columns.Given as goal
use Rattle.textwrap_more_calls.specs.declared.tables.TextwrapColumn.{TextwrapColumn}
use Rattle.textwrap_calls.proofs.Common.{get_or, ℕ, ◌<◌}
use Rattle.textwrap_more_calls.specs.Tables.{IsKnownColumn}

-- the columns so far are known
abbrev pub invariant-loop-column : goal.invariant-loop-column
invariant-loop-column l = (k : ℕ) (d : TextwrapColumn) → k < l.column-index
    → IsKnownColumn (get_or l.columns k d)
