use Rattle.textwrap_calls.proofs.indentation.dedent_text.Goals as goal
use Rattle.textwrap_calls.proofs.RoomLemmas.{written-exactly}
use Rattle.textwrap_calls.proofs.{Common.{arith, dedented, rules}, Lengths.Texts.dedented-length}

pub returns-clause-dedented : goal.returns-clause-dedented
returns-clause-dedented c =
    let short = dedented-length c.args.text.now c.utf8.text in
    written-exactly (dedented c.args.text.now) (omega (arith, short)) c.dedent_into-answer.ensures.len
    c.dedent_into-answer.ensures.room (search rules) c.report.ensures.len c.report.ensures.small
    c.report.ensures.statuses
