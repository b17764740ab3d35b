use Rattle.textwrap_calls.proofs.printable.is_one_line.Goals as goal
use Rattle.textwrap_calls.proofs.PrintableLines.{printable-utf8}

pub returns-then-is_printable_text-clause-utf8 : goal.returns-then-is_printable_text-clause-utf8
returns-then-is_printable_text-clause-utf8 c = λ is.
    printable-utf8 c.args.text.now (c.is_printable_text.ensures.0 c.if-is_printable_text.true)
