use Rattle.textwrap_calls.proofs.{Common.refl, TextLemmas.next-holds}
use Rattle.textwrap_more_calls.specs.Tables.{HasTexts}
use Rattle.textwrap_more_calls.proofs.tables.have_texts.Goals as goal

pub loop-column-preserved : goal.loop-column-preserved
loop-column-preserved c =
    next-holds HasTexts c.args.columns.now _ c.loop-column.invariant c.loop-column-test.true
    (c.if-not-has_texts.ensures.0 refl)

pub returns-then-not-has_texts : goal.returns-then-not-has_texts
returns-then-not-has_texts c = (
  λ is. cc,
  λ all. c.if-not-has_texts.ensures.1 (all c.loop-column.column-index _ c.loop-column-test.true),
)
