use Rattle.textwrap_display.proofs.needs.needs_of.Given as goal
use Rattle.std.specs.List.{range_with_len}
use Rattle.textwrap_display.{proofs.Common.column_texts, specs.Needs.need_of, specs.Tables.texts_in}
use Rattle.textwrap_text.proofs.Common.{map, ◌≡◌}

abbrev pub invariant-loop-column : goal.invariant-loop-column
invariant-loop-column g l = l.needs.items ≡ map (λ at. need_of (column_texts l.columns (texts_in l.cells) at))
    (range_with_len 0 l.column)
