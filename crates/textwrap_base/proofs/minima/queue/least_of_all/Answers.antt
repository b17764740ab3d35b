use Rattle.textwrap_text.proofs.Common.{arith, length, rules, ◌≡◌}
use Rattle.textwrap_base.proofs.Cost.Table.{least_one, table-is_table}
use Rattle.textwrap_base.proofs.minima.queue.least_of_all.Goals as goal

pub returns-clause-least : goal.returns-clause-least
returns-clause-least g c =
    let costs = g.C.CostSource.costs c.args.costs.now in
    let end = length c.args.minima.now in
    let i = c.loop-start.invariant in
    let best = c.loop-start.best in
    let all : c.loop-start.start ≡ end = omega arith in
    let least = least_one _ _ _ _ _ _ ((table-is_table costs.cost costs.ends).later end c.requires.minima.some c.requires.within)
    (rw all at i.least) in search (rules, arith)
