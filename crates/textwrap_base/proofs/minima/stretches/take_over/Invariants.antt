use Rattle.textwrap_base.proofs.minima.stretches.take_over.Given as goal
use Rattle.textwrap_text.proofs.Common.{◌≡◌, ◌+◌, ◌*◌, ◌-◌, ◌<◌, ◌≤◌}
use Rattle.textwrap_base.proofs.Common.{binary_digits, cost_from}

abbrev pub invariant-loop-low : goal.invariant-loop-low
invariant-loop-low g l =
    let costs = g.C.CostSource.costs l.fn.costs in
    record {
      same : g.C.CostSource.costs l.costs ≡ costs;
      start : l.best.start ≡ l.start;
      from : l.fn.low ≤ l.low;
      ordered : l.low ≤ l.best.from;
      before : l.best.from ≤ l.fn.won.from;
      priced : l.best.from < costs.ends → l.best.cost ≡ cost_from costs l.start l.best.from;
      unbeaten : l.fn.low < l.low → cost_from costs l.rival (l.low - 1)
          ≤ cost_from costs l.start (l.low - 1);
      beaten : l.best.from < l.fn.won.from
          → cost_from costs l.start l.best.from < cost_from costs l.rival l.best.from;
      steps : g.C.CostSource.steps l.costs + 2 * l.near + 2 * binary_digits (l.best.from - l.low)
          ≤ g.C.CostSource.steps l.fn.costs + 6 + 2 * binary_digits (l.fn.won.from - l.fn.low);
      never_less : g.C.CostSource.steps l.fn.costs ≤ g.C.CostSource.steps l.costs;
    }

abbrev pub decreases-loop-low : goal.decreases-loop-low
decreases-loop-low g l = l.best.from - l.low
