use Rattle.textwrap_calls.proofs.indentation.textwrap_indent.Goals as goal
use Rattle.textwrap_calls.proofs.{Common.{arith, inl, inr}, PrintableLines.printable-utf8}

pub returns-then-is_printable_text-clause-not_utf8 :
    goal.returns-then-is_printable_text-clause-not_utf8
returns-then-is_printable_text-clause-not_utf8 c = (
  λ is texts. elim c.report.ensures.statuses [
    | inl all ↦ omega (arith, is, all)
    | inr small ↦ omega (arith, is, small)
  ],
  λ not. absurd (not (
    c.is_full_line.ensures.utf8 c.if-is_full_line.true,
    printable-utf8 c.args.prefix.now (c.is_printable_text.ensures.0 c.if-is_printable_text.true),
  )),
)
