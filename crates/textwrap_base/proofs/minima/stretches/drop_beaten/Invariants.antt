use Rattle.textwrap_base.proofs.minima.stretches.drop_beaten.Given as goal
use Rattle.textwrap_text.proofs.Common.{◌≡◌, ◌+◌, ◌-◌, ◌<◌, ◌≤◌, length, take, vec_len}
use Rattle.textwrap_base.proofs.Common.{cost_from, IsBestFrom, stretch_at, HaveBest}

abbrev pub invariant-loop-stretches : goal.invariant-loop-stretches
invariant-loop-stretches g l =
    let costs = g.C.CostSource.costs l.fn.costs in
    record {
      same : g.C.CostSource.costs l.costs ≡ costs;
      left : l.stretches.items ≡ take (vec_len l.stretches) l.fn.stretches.items;
      current : l.current < vec_len l.stretches;
      fewer : vec_len l.stretches ≤ vec_len l.fn.stretches;
      start : l.won.start ≡ l.start;
      after : l.start < l.won.from;
      later : (stretch_at l.stretches.items (vec_len l.stretches - 1)).from < l.won.from;
      before : l.won.from ≤ costs.ends;
      priced : l.won.from < costs.ends → l.won.cost ≡ cost_from costs l.start l.won.from;
      best : HaveBest costs (length l.minima - 2) l.won.from l.stretches.items;
      wins : IsBestFrom costs l.start l.won.from;
      steps : g.C.CostSource.steps l.costs + vec_len l.stretches
          ≤ g.C.CostSource.steps l.fn.costs + vec_len l.fn.stretches;
      never_less : g.C.CostSource.steps l.fn.costs ≤ g.C.CostSource.steps l.costs;
    }

abbrev pub decreases-loop-stretches : goal.decreases-loop-stretches
decreases-loop-stretches g l = vec_len l.stretches
