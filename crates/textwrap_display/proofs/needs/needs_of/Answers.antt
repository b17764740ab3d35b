use Rattle.textwrap_display.proofs.needs.needs_of.Goals as goal
use Rattle.textwrap_text.proofs.Common.{arith, map-range_with_len_more, sym}

pub loop-column-preserved : goal.loop-column-preserved
loop-column-preserved g c = rw (c.in_ok-push.ensures.items, c.column_need.ensures, c.loop-column.invariant)
    (sym (map-range_with_len_more _ 0 c.loop-column.column c.loop-column.column (omega arith)))
