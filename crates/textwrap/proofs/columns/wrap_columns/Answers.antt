use Rattle.textwrap.proofs.columns.wrap_columns.Goals as goal
use Rattle.textwrap.proofs.Common.{IfOk-weaker}
use Rattle.textwrap.proofs.Text.Unfilling.{columns-as}

pub returns-clause-rows : goal.returns-clause-rows
returns-clause-rows g c = rw c.of-layout.ensures at c.wrap_columns_by.ensures.rows

pub returns-clause-built_in : goal.returns-clause-built_in
returns-clause-built_in g c = IfOk-weaker c.wrap_columns_by.result _ _
    (λ rows are settings splitter algorithm parts.
    columns-as c.args.options settings splitter algorithm parts c.args.columns c.args.text.now
    c.args.left_gap.now c.args.middle_gap.now c.args.right_gap.now _ are) (returns-clause-rows g c)

pub returns-clause-no_overflow : goal.returns-clause-no_overflow
returns-clause-no_overflow g c = rw c.of-layout.ensures at c.wrap_columns_by.ensures.no_overflow
