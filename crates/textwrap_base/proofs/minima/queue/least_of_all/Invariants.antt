use Rattle.textwrap_base.proofs.minima.queue.least_of_all.Given as goal
use Rattle.textwrap_text.proofs.Common.{◌≡◌}
use Rattle.textwrap_base.proofs.Common.{IsLeastBelow, least_entry, entry_from, cost_from, counted}
use Rattle.textwrap_base.proofs.Common.{table}

abbrev pub invariant-loop-start : goal.invariant-loop-start
invariant-loop-start g l =
    let costs = g.C.CostSource.costs l.fn.costs in
    record {
      same : g.C.CostSource.costs l.costs ≡ costs;
      least : IsLeastBelow costs.cost (table costs.cost costs.ends) l.end l.start
          (entry_from costs.cost l.best.start (least_entry costs l.best.start) l.end);
      cost : l.best.cost ≡ cost_from costs l.best.start l.end;
      steps : g.C.CostSource.steps l.costs ≡ counted (g.C.CostSource.steps l.fn.costs) l.start;
    }
