use Rattle.textwrap_more_calls.proofs.tables.read_columns.Goals as goal
use Rattle.textwrap_calls.proofs.Common.{inl, inr}

pub unreachable-requires : goal.unreachable-requires
unreachable-requires c =
    let at = c.loop-column.column-index in
    elim c.in_default.ensures.refused [
      | inl unknown ↦ unknown.1 (c.requires.known at _ c.loop-column-test.true).options
      | inr wrong ↦ wrong.2 (c.requires.texts at _ c.loop-column-test.true).indents
    ]
