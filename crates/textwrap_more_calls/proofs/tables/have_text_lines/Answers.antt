use Rattle.textwrap_calls.proofs.{Common.refl, TextLemmas.next-holds}
use Rattle.textwrap_more_calls.specs.Tables.{HasTextLines}
use Rattle.textwrap_more_calls.proofs.tables.have_text_lines.Goals as goal

pub loop-cell-preserved : goal.loop-cell-preserved
loop-cell-preserved c =
    next-holds HasTextLines c.args.cells.now _ c.loop-cell.invariant c.loop-cell-test.true
    (record { lines = c.if-not-are_utf8.ensures.0 refl })

pub returns-then-not-are_utf8 : goal.returns-then-not-are_utf8
returns-then-not-are_utf8 c = (
  λ is. cc,
  λ all. c.if-not-are_utf8.ensures.1 (all c.loop-cell.cell-index _ c.loop-cell-test.true).lines,
)
