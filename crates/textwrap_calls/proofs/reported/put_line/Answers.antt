use Rattle.textwrap_calls.proofs.reported.put_line.Goals as goal
use Rattle.textwrap_calls.proofs.{Common.{arith, refl, rules}, RoomLemmas.WritesReported-counts}

pub returns-clause-lines : goal.returns-clause-lines
returns-clause-lines c =
    WritesReported-counts (omega arith) refl c.write_places-counts.ensures c.report_counts.ensures
    (search rules) (search rules) (omega arith)
