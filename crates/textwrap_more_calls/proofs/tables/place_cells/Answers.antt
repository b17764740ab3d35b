use Rattle.textwrap_text.proofs.Common.{append-nil, arith, length, ◌≤◌, drop_all}
use Rattle.textwrap_more_calls.proofs.tables.place_cells.Goals as goal

pub returns : goal.returns
returns c =
    let past : length c.args.columns.now ≤ c.loop-column.column-index =
    omega (arith, c.loop-column-test.false) in
    let all = rw (drop_all c.loop-column.column-index c.args.columns.now past, append-nil)
    at c.loop-column.invariant in
    rw (
      c.in_ok-table_of_lines.ensures,
      c.deref-2.ensures.value,
      all,
      c.deref.ensures.value,
      c.in_ok-cells.ensures,
    ) at c.place_rows.ensures
