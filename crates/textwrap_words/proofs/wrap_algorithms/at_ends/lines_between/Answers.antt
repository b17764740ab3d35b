use Rattle.textwrap_words.proofs.wrap_algorithms.at_ends.lines_between.Goals as goal
use Rattle.textwrap_text.proofs.Common.{append_assoc, drop_more, drop_all, map_push, arith, refl}
use Rattle.textwrap_text.proofs.Common.{◌∙◌, append-nil, sym}

pub loop-end-init : goal.loop-end-init
loop-end-init g c = record { lines = rw c.new-lines.ensures.items refl; left = c.requires }

pub slice_bounds-push-count : goal.slice_bounds-push-count
slice_bounds-push-count g c =
    (rw (drop_more c.args.ends.now _ 0 c.loop-end-test.true) at c.loop-end.invariant.left).0.0

pub slice_bounds-push-start : goal.slice_bounds-push-start
slice_bounds-push-start g c =
    let next = rw (drop_more c.args.ends.now c.loop-end.end-index 0 c.loop-end-test.true)
    at c.loop-end.invariant.left in omega (arith, next.0.0, next.0.1)

pub slice_bounds-push-end : goal.slice_bounds-push-end
slice_bounds-push-end g c =
    let next = rw (drop_more c.args.ends.now c.loop-end.end-index 0 c.loop-end-test.true)
    at c.loop-end.invariant.left in omega (arith, next.0.0, next.0.1)

pub loop-end-preserved : goal.loop-end-preserved
loop-end-preserved g c =
    let more = drop_more c.args.ends.now c.loop-end.end-index 0 c.loop-end-test.true in
    record {
      lines = rw (c.in_ok-push.ensures.items, map_push, append_assoc)
          (rw more at c.loop-end.invariant.lines);
      left = (rw more at c.loop-end.invariant.left).1;
    }

pub returns : goal.returns
returns g c =
    let all = drop_all c.loop-end.end-index c.args.ends.now (omega arith) in
    record { lines = sym (append-nil _) ∙ rw all at c.loop-end.invariant.lines }
