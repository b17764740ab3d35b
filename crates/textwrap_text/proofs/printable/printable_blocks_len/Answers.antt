use Rattle.textwrap_text.proofs.printable.printable_blocks_len.Goals as goal
use Rattle.textwrap_text.proofs.{Common.◌≤◌, Lists.Parts.length-slice}
use Rattle.textwrap_text.proofs.Common.{get_or-drop, get_or-take, inl, IsPrintableByte, slice_range}
use Rattle.textwrap_text.proofs.Common.{arith, cases_lt, get_or, inr, length, subst, ◌+◌, ◌-◌, ◌≡◌}

pub loop-end-preserved : goal.loop-end-preserved
loop-end-preserved c =
    let text = c.args.text.now in
    let end = c.loop-end.end in
    let within : end + 32 ≤ length text =
    omega (arith, c.loop-end.invariant.0, c.loop-end-test.true) in (
      within,
      λ k below. elim (cases_lt k end) [
        | inl before ↦ c.loop-end.invariant.1 k before
        | inr from ↦
            let printable = c.is_printable.ensures.0 c.if-is_printable.true (k - end) 0
            (omega (arith, below, from, length-slice text end (end + 32) within)) in
            let place : end + (k - end) ≡ k = omega (arith, from) in
            let same : get_or (slice_range text end (end + 32)) (k - end) 0 ≡ get_or text k 0 =
            grind (arith, get_or-take, get_or-drop) in
            subst IsPrintableByte same printable
      ],
    )
