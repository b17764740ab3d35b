use Rattle.std.proofs.Common.{ap, ◌∙◌}
use Rattle.textwrap.proofs.Cutting.{EndWith-push, ends-push}
use Rattle.textwrap_vectors.proofs.tests.algorithms.widths_as_ends.Goals as goal
use Rattle.textwrap_vectors.proofs.tests.algorithms.widths_as_ends.Goals.{then-end-last+then-end-words+in_ok-push}
use Rattle.textwrap_vectors.proofs.tests.algorithms.widths_as_ends.Goals.{else-end-last}

pub loop-end-preserved : goal.loop-end-preserved
loop-end-preserved c = elim c.if-end-last.branch [
  | then-end-last+then-end-words+in_ok-push w ↦
      let grown = ap (λ v. v.items) w.ends-is ∙ w.in_ok-push.ensures.items in
      rw grown (rw w.last-is (record {
        ends = ends-push _ _ _ _ c.loop-end.invariant.ends c.loop-end.invariant.end_with
            w.if-end-last.true w.if-end-words.true;
        end_with = EndWith-push c.loop-end.ends.items _;
      }))
  | else-end-last w ↦ rw w.ends-is (rw w.last-is c.loop-end.invariant)
]
