use Rattle.textwrap_more_calls.proofs.tables.textwrap_table_of_lines.Goals as goal
use Rattle.textwrap_calls.proofs.{Common.{arith, refl}, TextLemmas.right-apart}
use Rattle.textwrap_calls.proofs.{PlaceLemmas.rows-written, TextLemmas.{known-apart, written-apart}}

pub place_cells-requires-clause-cells : goal.place_cells-requires-clause-cells
place_cells-requires-clause-cells c = c.if-not-have_text_lines.ensures.0 refl

pub returns-in-Ok-clause-table : goal.returns-in-Ok-clause-table
returns-in-Ok-clause-table c =
    rows-written _ refl (rw c.in-Some.ensures.gaps at c.in-Ok.ensures) c.put_lines.ensures.statuses
    c.put_lines.ensures.lines

pub returns-in-Ok-clause-unknown : goal.returns-in-Ok-clause-unknown
returns-in-Ok-clause-unknown c =
    known-apart (written-apart c.put_lines.ensures.statuses).1
    (c.if-not-are_known_columns.ensures.0 refl, c.if-not-are_known_gaps.ensures.0 refl)

pub returns-in-Ok-clause-not_utf8 : goal.returns-in-Ok-clause-not_utf8
returns-in-Ok-clause-not_utf8 c =
    right-apart (written-apart c.put_lines.ensures.statuses).0
    (c.if-not-have_text_lines.ensures.0 refl, c.in-Some.ensures.some)

pub returns-in-Err-clause-not_utf8 : goal.returns-in-Err-clause-not_utf8
returns-in-Err-clause-not_utf8 c =
    right-apart (λ is. omega (arith, is))
    (c.if-not-have_text_lines.ensures.0 refl, c.in-Some.ensures.some)
