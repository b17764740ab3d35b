use Rattle.textwrap_calls.proofs.printable.is_printable_text.Goals as goal
use Rattle.textwrap_calls.proofs.Common.{◌-◌, ◌∙◌, arith, length, sym, true≢false}
use Rattle.textwrap_calls.proofs.PrintableLines.{printable-both, printable-slice}

pub returns-then-is_printable : goal.returns-then-is_printable
returns-then-is_printable c =
    let text = c.args.text.now in (
      λ is. printable-both text 16 (omega arith) (omega arith)
          (c.is_printable-then-text-le-BLOCK.ensures.0 c.if-is_printable.true)
          (c.is_printable-then-is_printable.ensures.0 is),
      λ all. c.is_printable-then-is_printable.ensures.1
          (printable-slice text (length text - 16) (length text) all),
    )

pub returns-else-is_printable : goal.returns-else-is_printable
returns-else-is_printable c = (
  λ is. absurd (true≢false (sym is ∙ c.if-is_printable.false)),
  λ all. c.is_printable-then-text-le-BLOCK.ensures.1 (printable-slice c.args.text.now 0 16 all),
)
