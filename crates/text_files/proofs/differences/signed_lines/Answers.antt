use Rattle.textwrap_text.proofs.Common.{arith, inl, inr, ⊎_elim, length-map}
use Rattle.text_files.proofs.{DiffLines.taken-further, DiffRuns.begins-same, DiffRuns.goes-on}
use Rattle.text_files.proofs.differences.signed_lines.Goals as goal

pub loop-old_at-preserved : goal.loop-old_at-preserved
loop-old_at-preserved g c = record {
  old = omega (arith, c.in_ok-old_len.ensures.within_old);
  new = omega (arith, c.in_ok-old_len.ensures.within_new);
  olds = taken-further c.args.old.now c.loop-old_at.old_at c.in_ok-old_len.old_len _ _
      c.loop-old_at.invariant.olds c.in_ok-old_len.ensures.olds;
  lean = c.in_ok-old_len.ensures.lean c.loop-old_at.invariant.lean
      (⊎_elim inl (λ one. ⊎_elim
      (λ same. inr (begins-same c.args.old.now c.args.new.now c.loop-old_at.old_at c.loop-old_at.new_at same))
      (λ all. let old_len = length-map c.args.old.now (λ line. line.now) in
      let new_len = length-map c.args.new.now (λ line. line.now) in
      absurd (omega (arith, all.0, all.1, old_len, new_len))) one) c.loop-old_at.invariant.next);
  next = inr (goes-on c.args.old.now c.args.new.now c.loop-old_at.old_at c.loop-old_at.new_at
      c.in_ok-old_len.old_len c.in_ok-old_len.new_len c.loop-old_at.invariant.old
      c.loop-old_at.invariant.new c.in_ok-old_len.ensures.next);
  news = taken-further c.args.new.now c.loop-old_at.new_at c.in_ok-old_len.new_len _ _
      c.loop-old_at.invariant.news c.in_ok-old_len.ensures.news;
}
