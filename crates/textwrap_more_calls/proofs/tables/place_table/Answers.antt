use Rattle.std.proofs.Common.{arith, rules}
use Rattle.textwrap_plain.proofs.Named.{plain-table}
use Rattle.textwrap_more_calls.proofs.tables.place_table.Goals as goal

pub returns : goal.returns
returns c =
    let table = plain-table _ _ _ _ c.in_ok-rows.ensures.rows in
    search (rules, arith, table)
