use Rattle.textwrap_calls.proofs.columns.textwrap_rows_of_lines.Goals as goal
use Rattle.textwrap_calls.proofs.Common.{refl, subst, table_rows, ArePlacedRows, bytes_of}
use Rattle.textwrap_calls.proofs.PlaceLemmas.{rows-written}

pub returns-in-Ok-clause-rows : goal.returns-in-Ok-clause-rows
returns-in-Ok-clause-rows c =
    let placed = c.in-Ok.placed in
    rows-written _ refl (subst (λ l. ArePlacedRows (table_rows l (bytes_of c.args.lines.now))
    placed.places.items placed.built.items) c.in-Some.ensures.layout c.in-Ok.ensures)
    c.put_lines.ensures.statuses c.put_lines.ensures.lines
