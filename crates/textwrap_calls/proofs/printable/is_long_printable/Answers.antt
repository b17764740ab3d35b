use Rattle.textwrap_calls.proofs.printable.is_long_printable.Goals as goal
use Rattle.textwrap_calls.proofs.Common.{◌+◌, ◌-◌, ◌≤◌, All-from_get_or, arith, cases_lt, inl, inr}
use Rattle.textwrap_calls.proofs.Common.{length, IsPrintableByte}
use Rattle.textwrap_calls.proofs.PrintableLines.{byte-in, printable-slice}

pub loop-end-preserved : goal.loop-end-preserved
loop-end-preserved c =
    let text = c.args.text.now in
    let end = c.loop-end.end in
    let within : end + 32 ≤ length text =
    omega (arith, c.loop-end.invariant.within, c.loop-end-test.true) in
    record {
      within = within;
      printable = λ k below. elim (cases_lt k end) [
        | inl before ↦ c.loop-end.invariant.printable k before
        | inr from ↦ byte-in text end (end + 32) k within from below
            (c.is_printable.ensures.0 c.if-not-is_printable.false)
      ];
    }

pub returns : goal.returns
returns c =
    let text = c.args.text.now in (
      λ is. All-from_get_or IsPrintableByte text 0 (λ k within. elim (cases_lt k c.loop-end.end) [
        | inl before ↦ c.loop-end.invariant.printable k before
        | inr from ↦ byte-in text (length text - 32) (length text) k (omega arith)
            (omega (arith, from, c.loop-end-test.false)) within (c.is_printable-2.ensures.0 is)
      ]),
      λ all. c.is_printable-2.ensures.1
          (printable-slice text (length text - 32) (length text) all),
    )
