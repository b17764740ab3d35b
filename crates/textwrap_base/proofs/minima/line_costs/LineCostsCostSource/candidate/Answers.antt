use Rattle.textwrap_base.proofs.minima.line_costs.LineCostsCostSource.candidate.Goals as goal
use Rattle.textwrap_text.proofs.Common.{◌≡◌, arith, sym, ◌∙◌}
use Rattle.textwrap_base.proofs.Common.{PricedSizes, line_costs, measured, problem_by}
use Rattle.textwrap_base.proofs.Cost.LineCosts.{line_costs-at}
use Rattle.textwrap_base.proofs.minima.line_costs.LineCostsCostSource.candidate.Goals.{After-line_cost}

-- the view has the cost of the measures
cost_is : (g : _) (c : After-line_cost g)
    → line_costs (problem_by (λ (x : PricedSizes). x) c.args.self.now.penalties
    c.args.self.now.widths c.args.self.now.priced) c.args.start c.args.end c.args.line_number
    ≡ line_costs (problem_by measured c.self.inside.penalties c.deref-2.result.now c.deref.result.now)
    c.args.start c.args.end c.args.line_number
cost_is g c = rw (c.deref-2.ensures.value, c.deref.ensures.value, ← c.self.view_is)
    (line_costs-at (problem_by measured c.self.inside.penalties c.self.inside.line_widths.items
    c.self.inside.measures.items) c.args.start c.args.end c.args.line_number)

pub returns-clause-cost : goal.returns-clause-cost
returns-clause-cost g c =
    rw (cost_is g (goal.at.returns-clause-cost g c).After-line_cost ∙ sym c.in_ok-cost.ensures.1)
    c.checked_add.ensures

pub returns-in_err-cost-clause-cost : goal.returns-in_err-cost-clause-cost
returns-in_err-cost-clause-cost g c =
    let same = cost_is g (goal.at.returns-in_err-cost-clause-cost g c).After-line_cost in
    rw (same, c.from_residual.ensures) (λ fits. c.in_err-cost.ensures (omega (arith, fits)))
