use Rattle.textwrap_lines.proofs.Common.{IfOk-weaker}
use Rattle.textwrap_lines.proofs.filling.fill.Goals as goal
use Rattle.textwrap_layout.proofs.Paragraph.Pieces.{filled-as}

pub returns-clause-filled : goal.returns-clause-filled
returns-clause-filled g c = rw c.of.ensures at c.fill_by.ensures.filled

pub returns-clause-built_in : goal.returns-clause-built_in
returns-clause-built_in g c = IfOk-weaker c.fill_by.result _ _
    (λ filled is settings splitter algorithm parts.
    filled-as c.args.options settings splitter algorithm parts c.args.text.now _ is)
    (returns-clause-filled g c)

pub returns-clause-no_overflow : goal.returns-clause-no_overflow
returns-clause-no_overflow g c = rw c.of.ensures at c.fill_by.ensures.no_overflow
