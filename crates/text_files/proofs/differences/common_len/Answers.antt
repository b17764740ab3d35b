use Rattle.std.proofs.Common.{[], arith, sym}
use Rattle.text_files.proofs.DiffLines.{other-at, same-more}
use Rattle.text_files.proofs.differences.common_len.Goals as goal

pub loop-len-preserved : goal.loop-len-preserved
loop-len-preserved c = record {
  old = omega arith;
  new = omega arith;
  same = same-more c.args.old.now c.args.new.now c.loop-len.len (record { ref_ptr = (0, 0); now = [] })
      (omega arith) (omega arith) c.loop-len.invariant.same (sym c.if-eq.ensures);
}

pub returns-else-eq-clause-longest : goal.returns-else-eq-clause-longest
returns-else-eq-clause-longest c =
    other-at c.args.old.now c.args.new.now c.loop-len.len (record { ref_ptr = (0, 0); now = [] })
    (omega arith) (omega arith) (sym c.if-eq.ensures)
