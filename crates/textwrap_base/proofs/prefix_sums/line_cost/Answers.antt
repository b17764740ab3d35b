use Rattle.textwrap_text.proofs.Common.{arith, rules}
use Rattle.textwrap_base.proofs.Cost.{LineCosts.line_cost-slice, Measures.takes_by_sums}
use Rattle.textwrap_base.proofs.prefix_sums.line_cost.Goals as goal

pub closed_width-requires : goal.closed_width-requires
closed_width-requires g c =
    let takes = takes_by_sums c.requires.measured c.requires.ordered c.requires.within
    c.index-fragments-start.is c.index-fragments-end.is in search (rules, arith)

pub returns : goal.returns
returns g c = search (rules, arith, takes_by_sums, line_cost-slice)

pub returns-in_err-fit_cost : goal.returns-in_err-fit_cost
returns-in_err-fit_cost g c = search (rules, arith, takes_by_sums, line_cost-slice)
