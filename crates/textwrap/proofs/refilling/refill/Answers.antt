use Rattle.textwrap.proofs.refilling.refill.Goals as goal
use Rattle.textwrap.proofs.Common.{IfOk-weaker}
use Rattle.textwrap.proofs.Text.Unfilling.{refilled-as}

pub returns-clause-refilled : goal.returns-clause-refilled
returns-clause-refilled g c = rw c.of.ensures at c.refill_by.ensures.refilled

pub returns-clause-built_in : goal.returns-clause-built_in
returns-clause-built_in g c = IfOk-weaker c.refill_by.result _ _
    (λ refilled is settings splitter algorithm parts.
    refilled-as c.args.options settings splitter algorithm parts c.args.filled_text.now _ is)
    (returns-clause-refilled g c)

pub returns-clause-no_overflow : goal.returns-clause-no_overflow
returns-clause-no_overflow g c = rw c.of.ensures at c.refill_by.ensures.no_overflow
