use Rattle.textwrap_text.proofs.widths.display_width.Goals as goal
use Rattle.textwrap_text.proofs.Common.{text_width, eqb-true, length, arith, Text, sym, ◌≡◌}
use Rattle.textwrap_text.proofs.Units.Reading.{columns_in-empty, text_width-le}
use Rattle.textwrap_text.proofs.widths.display_width.Goals.{After-loop-rest}

pub overflow_add-width : goal.overflow_add-width
overflow_add-width c = grind (arith, text_width-le)

-- at the end nothing is left
whole : (c : After-loop-rest) → c.loop-rest.width ≡ text_width c.args.text.now
whole c =
    let none = eqb-true (length c.loop-rest.rest.now) 0 (sym c.loop-rest-test.ensures) in
    omega (arith, c.loop-rest.invariant.columns, columns_in-empty Text c.loop-rest.rest.now none)

pub returns-clause-width : goal.returns-clause-width
returns-clause-width c = whole c

pub returns-clause-bound : goal.returns-clause-bound
returns-clause-bound c = omega (arith, whole c, text_width-le c.args.text.now c.utf8.text)
