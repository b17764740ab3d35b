use Rattle.textwrap_lines.proofs.Common.{lines_of}
use Rattle.textwrap_lines.proofs.Common.{arith, rules}
use Rattle.textwrap_lines.proofs.filling.fill_slow_path.Goals as goal
use Rattle.textwrap_layout.proofs.Paragraph.Pieces.{filled-as}
use Rattle.textwrap_lines.proofs.Paragraph.KeepsTo.{passed-on}

pub returns-in_err-push_text-clause-only_memory : goal.returns-in_err-push_text-clause-only_memory
returns-in_err-push_text-clause-only_memory g c = λ never.
    passed-on c.from_residual.result c.in_err-push_text.field-0.0 c.from_residual.ensures.1
    (c.in_err-push_text.ensures.only_memory never)

pub returns-clause-filled : goal.returns-clause-filled
returns-clause-filled g c =
    let (taken, found, end, holds) = c.in_ok-push_text.ensures.lines in
    let are = rw c.of.ensures at found in
    (lines_of taken, are.are, search (rules, arith, c.in_ok-join_lines.ensures, c.deref.ensures.value))

pub returns-clause-built_in : goal.returns-clause-built_in
returns-clause-built_in g c = search (rules, arith, filled-as, returns-clause-filled)

pub returns-in_err-push_text-clause-no_overflow : goal.returns-in_err-push_text-clause-no_overflow
returns-in_err-push_text-clause-no_overflow g c = λ never.
    passed-on c.from_residual.result c.in_err-push_text.field-0.0 c.from_residual.ensures.1
    ((rw c.of.ensures at c.in_err-push_text.ensures.no_overflow) never)
