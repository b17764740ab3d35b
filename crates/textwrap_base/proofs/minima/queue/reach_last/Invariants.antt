use Rattle.textwrap_base.proofs.minima.queue.reach_last.Given as goal
use Rattle.textwrap_text.proofs.Common.{vec_len, ◌*◌, ◌+◌, ◌-◌, ◌/◌, ◌<◌, ◌≡◌, ◌≤◌}
use Rattle.textwrap_base.proofs.Common.{binary_digits, AreStretches, AreMinima, HasEnd}

-- the starts of the second half have less than half of the ends to come: so their bisections are
-- shorter by a look of two steps
abbrev pub invariant-loop-stretches : goal.invariant-loop-stretches
invariant-loop-stretches g l =
    let costs = g.C.CostSource.costs l.fn.costs in
    let d = binary_digits l.ends in
    record {
      same : g.C.CostSource.costs l.costs ≡ costs;
      minima : AreMinima costs l.minima.items;
      two : 1 < vec_len l.minima;
      within : vec_len l.minima ≤ l.ends;
      stretches : AreStretches costs (vec_len l.minima - 1) l.stretches.items;
      current : HasEnd l.stretches.items (vec_len l.minima - 1) l.current;
      steps : g.C.CostSource.steps l.costs + vec_len l.stretches
          + 2 * (vec_len l.minima - (l.ends + 1) / 2) + (10 + 2 * d)
          ≤ g.C.CostSource.steps l.fn.costs + vec_len l.minima * (10 + 2 * d);
      never_less : g.C.CostSource.steps l.fn.costs ≤ g.C.CostSource.steps l.costs;
    }

abbrev pub decreases-loop-stretches : goal.decreases-loop-stretches
decreases-loop-stretches g l = l.ends - vec_len l.minima
