use Rattle.textwrap_calls.proofs.columns.place_lines.Goals as goal

pub returns : goal.returns
returns c =
    rw (c.in_ok-table_rows.ensures, c.deref.ensures.value, c.in_ok-lines.ensures)
    at c.place_rows.ensures
