use Rattle.textwrap.proofs.rows.push_rows.Goals as goal
use Rattle.textwrap.proofs.Common.{map-range_with_len_more, append_assoc, map-append, framed, arith}

pub loop-r-preserved : goal.loop-r-preserved
loop-r-preserved g c =
    let more = map-range_with_len_more
    (λ r. framed c.args.frame.now (g.C.RowCells.texts c.args.cells.now r)) 0 c.loop-r.r c.loop-r.r
    (omega arith) in
    rw (c.in_ok-push.ensures.items, map-append, c.loop-r.invariant, c.in_ok-row.ensures, more)
    (simp append_assoc)
