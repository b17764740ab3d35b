use Rattle.textwrap_display.proofs.shortening.push_whole.Goals as goal
use Rattle.textwrap_display.proofs.Common.{line_bytes-line_view}
use Rattle.textwrap_text.proofs.Common.{append_assoc, arith, map-append, take_more}

pub loop-line-preserved : goal.loop-line-preserved
loop-line-preserved g c =
    let front = take_more c.args.lines.now c.loop-line.line-index c.line-item.result c.loop-line-test.true in
    rw (c.in_ok-push.ensures.items, map-append, c.loop-line.invariant, append_assoc)
    (grind (arith, map-append, front, c.line-item.is, c.as_str.ensures.value, line_bytes-line_view))
