use Rattle.textwrap_base.proofs.minima.line_costs.LineCosts.new.Goals as goal
use Rattle.textwrap_base.proofs.{Common.problem_of, Cost.LineCosts.break_penalties-measured}
use Rattle.textwrap_base.proofs.Cost.Measures.{fragment_costs-map}

pub returns-clause-costs : goal.returns-clause-costs
returns-clause-costs g c =
    rw (c.in_ok-measures_of.ensures.priced, c.in_ok-from_slice.ensures.items)
    (fragment_costs-map (problem_of g.T.Fragment c.args.penalties.now _ c.args.fragments.now))

pub returns-clause-break_penalties : goal.returns-clause-break_penalties
returns-clause-break_penalties g c =
    break_penalties-measured _ _ _ _ c.in_ok-measures_of.ensures.priced
    c.in_ok-measures_of.ensures.break_penalties
