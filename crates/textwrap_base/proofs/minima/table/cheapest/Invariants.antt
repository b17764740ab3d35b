use Rattle.textwrap_base.proofs.minima.table.cheapest.Given as goal
use Rattle.textwrap_text.proofs.Common.{◌≡◌}
use Rattle.textwrap_base.proofs.Common.{IsBestBelow, counted}

abbrev pub invariant-loop-start : goal.invariant-loop-start
invariant-loop-start g l = record {
  best : IsBestBelow (g.C.CostSource.costs l.fn.costs).cost l.entries l.end l.start l.best;
  same : g.C.CostSource.costs l.costs ≡ g.C.CostSource.costs l.fn.costs;
  steps : g.C.CostSource.steps l.costs ≡ counted (g.C.CostSource.steps l.fn.costs) l.start;
}
