use Rattle.vectors_beside.proofs.Common.{EndWith-push, ends-push, arith, ◌+◌}
use Rattle.vectors_beside.proofs.uses.lists.end_after_each.Goals as goal

pub loop-before-preserved : goal.loop-before-preserved
loop-before-preserved c =
    let before = c.loop-before.before in
    let ends = c.loop-before.ends.items in
    rw c.in_ok-push.ensures.items (record {
      ends = ends-push c.args.words.now ends (before + 1) before c.loop-before.invariant.ends
          c.loop-before.invariant.end_with (omega arith) (omega arith);
      end_with = EndWith-push ends (before + 1);
    })
