use Rattle.vectors_beside.proofs.Common.{IfOk-weaker, one-width}
use Rattle.vectors_beside.proofs.uses.gallery.hung_rows.Goals as goal

pub returns : goal.returns
returns c = record {
  chosen = IfOk-weaker c.wrap_optimal_fit.result _ _
      (λ rows divided. divided.chosen (one-width c.args.wall_width))
      (rw c.new.ensures at c.wrap_optimal_fit.ensures.fit.divided);
}
