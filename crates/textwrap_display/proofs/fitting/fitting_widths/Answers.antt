use Rattle.textwrap_display.proofs.fitting.fitting_widths.Goals as goal
use Rattle.std.proofs.lemmas.List.Sums.{get_or-le-sum_by}
use Rattle.{textwrap_display.proofs.Common.sure, textwrap_text.proofs.Common.arith}

pub rounded_down-requires-clause-sure : goal.rounded_down-requires-clause-sure
rounded_down-requires-clause-sure g c =
    let one = get_or-le-sum_by (sure c.of-sharing.result.basis) c.args.needs.now
    c.loop-need.need-index (record { least = 0; most = 0 }) c.loop-need-test.true in
    omega (arith, one, c.of-sharing.ensures.shares.left, c.ranges.total.fits)
