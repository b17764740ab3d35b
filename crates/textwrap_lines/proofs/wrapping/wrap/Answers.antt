use Rattle.textwrap_lines.proofs.wrapping.wrap.Goals as goal
use Rattle.textwrap_lines.proofs.Common.{ByFirstFit, IfOk-weaker}
use Rattle.textwrap_lines.proofs.Text.Promises.{ArePrintedWithin-options, LinesKeepToWidth-options}
use Rattle.textwrap_lines.proofs.Text.Promises.{IsWrapped-options, LinesKeepToWidth-from}
use Rattle.textwrap_layout.proofs.Paragraph.Pieces.{lines-as}

pub returns-clause-lines : goal.returns-clause-lines
returns-clause-lines g c = IfOk-weaker c.wrap_by.result _ _
    (λ lines. IsWrapped-options c.args.options c.args.text.now _ c.utf8.text)
    (rw c.of.ensures at c.wrap_by.ensures.lines)

pub returns-clause-even : goal.returns-clause-even
returns-clause-even g c = λ even first built_in breaks. IfOk-weaker c.wrap_by.result _ _ (λ lines.
    LinesKeepToWidth-options c.args.options c.args.text.now _ c.utf8.text even first built_in
    breaks) (rw c.of.ensures at c.wrap_by.ensures.lines)

pub returns-clause-built_in : goal.returns-clause-built_in
returns-clause-built_in g c = IfOk-weaker c.wrap_by.result _ _
    (λ lines are settings splitter algorithm parts.
    lines-as c.args.options settings splitter algorithm parts c.args.text.now _ are)
    (rw c.of.ensures at c.wrap_by.ensures.lines)

pub returns-clause-built_in_even : goal.returns-clause-built_in_even
returns-clause-built_in_even g c = IfOk-weaker c.wrap_by.result _ _
    (λ lines are settings splitter parts even breaks.
    LinesKeepToWidth-from settings splitter c.args.text.now _ c.utf8.text even breaks
    (are settings splitter ByFirstFit parts)) (returns-clause-built_in g c)

pub returns-clause-printed : goal.returns-clause-printed
returns-clause-printed g c = λ first built_in can. IfOk-weaker c.wrap_by.result _ _ (λ lines.
    ArePrintedWithin-options c.args.options c.args.text.now _ c.utf8.text first built_in can)
    (rw c.of.ensures at c.wrap_by.ensures.lines)

pub returns-clause-no_overflow : goal.returns-clause-no_overflow
returns-clause-no_overflow g c = rw c.of.ensures at c.wrap_by.ensures.no_overflow
