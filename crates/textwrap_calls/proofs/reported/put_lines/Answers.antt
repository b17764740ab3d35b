use Rattle.textwrap_calls.proofs.reported.put_lines.Goals as goal
use Rattle.textwrap_calls.proofs.{Common.{arith, rules}, RoomLemmas.WritesReported-counts}

pub returns-clause-lines : goal.returns-clause-lines
returns-clause-lines c =
    let writes = rw (c.as_slice-places.ensures.value, c.as_slice-built.ensures.value)
    at c.write_places-counts.ensures in
    WritesReported-counts (omega arith) (omega arith) writes
    c.report_counts.ensures (search rules) (search rules) (omega arith)
