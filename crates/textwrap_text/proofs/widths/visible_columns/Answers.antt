use Rattle.textwrap_text.proofs.widths.visible_columns.Goals as goal
use Rattle.textwrap_text.proofs.{Common.◌+◌, Common.◌≢◌, Texts.ascii-here, Units.Reading.IsMeasured}
use Rattle.textwrap_text.proofs.Common.{arith, char_indices_offset, char_indices_rest, ne_eqb, Text}
use Rattle.textwrap_text.proofs.Units.Reading.{measured-le, measured-start, measured-step}
use Rattle.textwrap_text.proofs.widths.visible_columns.Goals.{After-columns-width}

pub loop-at-init : goal.loop-at-init
loop-at-init c = grind (arith, measured-start)

other : (c : After-columns-width) → c.in-Some.ch ≢ 27
other c is = grind (arith, ascii-here)

past : (c : After-columns-width)
    → IsMeasured c.args.text.now (char_indices_offset c.next.new.self)
    (char_indices_rest c.next.new.self) Text (c.loop-at.width + c.columns-width.result)
past c = rw c.columns-width.ensures (rw (ne_eqb c.in-Some.ch 27 (other c))
    at (measured-step c.args.text.now _ _ c.in-Some.ch _ _ Text c.loop-at.width
    c.loop-at.invariant c.in-Some.ensures.steps.1 c.in-Some.ensures.steps.2))

pub overflow_add-width : goal.overflow_add-width
overflow_add-width c = omega (arith, measured-le c.args.text.now _ _ _ _ c.utf8.text (past c))

pub loop-at-preserved : goal.loop-at-preserved
loop-at-preserved c = past c
