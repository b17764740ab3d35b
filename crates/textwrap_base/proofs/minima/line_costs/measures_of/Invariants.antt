use Rattle.textwrap_base.proofs.minima.line_costs.measures_of.Given as goal
use Rattle.textwrap_text.proofs.Common.{get_or, length, take, All, map, ◌-◌, ◌<◌, ◌^◌, ◌≡◌, ◌≤◌, ℕ}
use Rattle.textwrap_base.proofs.Common.{open_width, priced_by, measured, Measure}
use Rattle.textwrap_base.proofs.Cost.Measures.{measured_sizes}

abbrev pub invariant-loop-fragment : goal.invariant-loop-fragment
invariant-loop-fragment g l = record {
  priced : map measured l.measures.items ≡ map (priced_by g.T.Fragment.sizes g.T.Fragment.own_break_penalty l.penalties)
      (take l.fragment-index l.fragments);
  all : (i : ℕ) (d : Measure) → i < length l.measures.items
      → (get_or l.measures.items i d).before ≡ open_width measured_sizes (take i l.measures.items);
  break_penalties : All (λ (m : Measure). m.break_penalty ≤ 2 ^ 64 - 1) l.measures.items;
  now : l.before ≡ open_width measured_sizes l.measures.items;
}
