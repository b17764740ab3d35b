use Rattle.textwrap_calls.proofs.indentation.is_full_line.Goals as goal
use Rattle.textwrap_calls.proofs.Common.{◌∙◌, eqb-false, length, sym}
use Rattle.textwrap_calls.proofs.PrintableLines.{indented-line, printable-utf8}

pub returns-then-text-ne32-clause-utf8 : goal.returns-then-text-ne32-clause-utf8
returns-then-text-ne32-clause-utf8 c = λ is.
    printable-utf8 c.args.text.now (c.is_printable_text.ensures.0 is)

pub returns-then-text-ne32-clause-line : goal.returns-then-text-ne32-clause-line
returns-then-text-ne32-clause-line c = λ is prefix.
    let text = c.args.text.now in
    indented-line prefix text (c.is_printable_text.ensures.0 is)
    (eqb-false (length text) 0 (sym c.is_empty.ensures ∙ c.if-is_empty.false)) c.if-text-ne32.true
