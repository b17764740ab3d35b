use Rattle.textwrap_more_calls.proofs.tables.have_texts.Given as goal
use Rattle.textwrap_more_calls.specs.declared.tables.TextwrapColumn.{TextwrapColumn}
use Rattle.textwrap_calls.proofs.Common.{get_or, ℕ, ◌<◌}
use Rattle.textwrap_more_calls.specs.Tables.{HasTexts}

-- the columns so far have indents that are UTF-8
abbrev pub invariant-loop-column : goal.invariant-loop-column
invariant-loop-column l = (k : ℕ) (d : TextwrapColumn) → k < l.column-index
    → HasTexts (get_or l.columns k d)
