use Rattle.textwrap_text.proofs.Common.{arith, rules, subst, Vec, ℕ, ◌^◌, ◌≤◌}
use Rattle.textwrap_base.proofs.Common.{Costs, Entry, entry_at, problem_of, table}
use Rattle.textwrap_base.proofs.Cost.Results.{reported-least_cost}
use Rattle.textwrap_base.proofs.Cost.Table.{overflowed_on, table-fits}
use Rattle.textwrap_base.proofs.minima.table_minima.Goals as goal

pub returns-in_err-entries-clause-no_overflow : goal.returns-in_err-entries-clause-no_overflow
returns-in_err-entries-clause-no_overflow g c =
    let lines = c.in_ok-costs.ensures.costs in
    λ narrow over.
    let fits = table-fits (problem_of g.T.Fragment c.in_range-penalties.result
    c.args.line_widths.now c.args.fragments.now)
    c.in_range-penalties.ensures.range c.in_ok-costs.ensures.break_penalties
    (λ i. omega (arith, c.type_inv.line_widths i)) narrow in
    let (i, first, steps) = c.in_err-entries.ensures.overflow
    (overflowed_on (Vec Entry g.row.A.Denot) c.from_residual-in_err-entries.result
    c.in_err-entries.field-0.0 c.from_residual-in_err-entries.ensures.1 over) in
    let (j, l, p) = subst (λ (l : Costs). (j : ℕ) × (j ≤ l.ends)
    × (2 ^ 128 ≤ (entry_at (table l.cost l.ends) j).cost)) lines (i, first.within, first.past) in
    let f = fits j l in omega (arith, f, p)

pub returns-clause-entries : goal.returns-clause-entries
returns-clause-entries g c = search (rules, arith)

pub returns-clause-least : goal.returns-clause-least
returns-clause-least g c = search (rules, arith, reported-least_cost, returns-clause-entries)
