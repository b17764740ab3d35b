use Rattle.textwrap_more_calls.proofs.tables.textwrap_table.Goals as goal
use Rattle.textwrap_calls.proofs.{Common.{arith, refl}, TextLemmas.right-apart}
use Rattle.textwrap_calls.proofs.{PlaceLemmas.rows-written, TextLemmas.{known-apart, written-apart}}

pub place_table-requires-clause-texts : goal.place_table-requires-clause-texts
place_table-requires-clause-texts c = c.if-not-have_texts.ensures.0 refl

pub returns-in-Ok-clause-table : goal.returns-in-Ok-clause-table
returns-in-Ok-clause-table c =
    let (rows, table, placed) = c.in-Ok.ensures in
    rows-written rows (rw c.in-Some.ensures.gaps at table) placed c.put_lines.ensures.statuses
    c.put_lines.ensures.lines

pub returns-in-Ok-clause-unknown : goal.returns-in-Ok-clause-unknown
returns-in-Ok-clause-unknown c =
    known-apart (written-apart c.put_lines.ensures.statuses).1
    (c.if-not-are_known_columns.ensures.0 refl, c.if-not-are_known_gaps.ensures.0 refl)

pub returns-in-Ok-clause-not_utf8 : goal.returns-in-Ok-clause-not_utf8
returns-in-Ok-clause-not_utf8 c =
    right-apart (written-apart c.put_lines.ensures.statuses).0 (record {
      cells_are = c.if-not-are_utf8.ensures.0 refl;
      columns_are = c.if-not-have_texts.ensures.0 refl;
      gaps_are = c.in-Some.ensures.some;
    })

pub returns-in-Err-clause-not_utf8 : goal.returns-in-Err-clause-not_utf8
returns-in-Err-clause-not_utf8 c =
    right-apart (λ is. omega (arith, is)) (record {
      cells_are = c.if-not-are_utf8.ensures.0 refl;
      columns_are = c.if-not-have_texts.ensures.0 refl;
      gaps_are = c.in-Some.ensures.some;
    })
