use Rattle.textwrap_base.proofs.minima.table.fill_table.Given as goal
use Rattle.textwrap_text.proofs.Common.{◌<◌, ◌^◌, ◌≡◌, ◌≤◌, ℕ}
use Rattle.textwrap_base.proofs.Common.{table_steps, entry_at, counted, table}

abbrev pub invariant-loop-last : goal.invariant-loop-last
invariant-loop-last g l = record {
  entries : l.entries.items ≡ table (g.C.CostSource.costs l.fn.costs).cost l.last;
  fits : (j : ℕ) → j ≤ l.last
      → (entry_at (table (g.C.CostSource.costs l.fn.costs).cost l.last) j).cost < 2 ^ 128;
  same : g.C.CostSource.costs l.costs ≡ g.C.CostSource.costs l.fn.costs;
  steps : g.C.CostSource.steps l.costs ≡ counted (g.C.CostSource.steps l.fn.costs)
      (table_steps l.last);
}
