-- The line costs of a queue case suit a search by a queue.
use Rattle.textwrap_text.proofs.{Common.[], Common.ℕ, Common.◌≤◌, Lists.Parts.take_slice}
use Rattle.textwrap_text.proofs.Common.{All-drop, All-take, arith, length, slice_index, slice_range}
use Rattle.textwrap_text.proofs.Common.{drop, eqb, inl, inr, List, max, rules, take, ◌-◌, ◌<◌, ◌∷◌}
use Rattle.textwrap_base.{proofs.Cost.LineCosts.line_cost-le, specs.Queue.AreSmall}
use Rattle.textwrap_base.proofs.{Common.Sizes, Cost.Chosen.line_costs-steady, Search.small_entry}
use Rattle.textwrap_base.proofs.Common.{closed_width, fragment_costs, IsQueueCase, TableOverflows}
use Rattle.textwrap_base.proofs.Common.{line_width, Problem, queue_limit, SuitQueue, total_width}
use Rattle.textwrap_base.proofs.Cost.LineCosts.{AreConvex-rising, closed_width-le, total_width-take}
use Rattle.textwrap_base.proofs.Division.Greedy.{closed_width-end}

target-small : (widths : List ℕ) (number : ℕ)
    → ((l : ℕ) → l < length widths → slice_index widths l ≤ queue_limit)
    → max (line_width widths number) 1 ≤ queue_limit
target-small [] number small = omega arith
target-small (width ∷ widths) number small = search (rules, arith)

-- the closed width of any line is at most all widths together
closed_width-slice_le : {X : Type 0} (sizes : X → Sizes) (xs : List X) (i j : ℕ) → i ≤ j
    → closed_width sizes (slice_range xs i j) ≤ total_width sizes xs
closed_width-slice_le sizes xs i j h =
    let end = closed_width-end sizes (take i xs) (slice_range xs i j) in
    grind (arith, take_slice, closed_width-le, total_width-take)

module _ {X : Type 0} (problem : Problem X) (case : IsQueueCase problem) where
  line_costs-small : AreSmall (fragment_costs problem)
  line_costs-small i j number h l =
      let xs = problem.fragments in
      let closed = closed_width-slice_le (λ x. (problem.priced x).sizes) xs i j (omega arith) in
      let kept = All-take (λ x. (problem.priced x).break_penalty ≤ queue_limit) (j - i) (drop i xs)
      (All-drop (λ x. (problem.priced x).break_penalty ≤ queue_limit) i xs
      case.small_break_penalties) in
      let cost = line_cost-le queue_limit problem.priced problem.penalties
      (line_width problem.widths number) (eqb j (length xs)) (slice_range xs i j)
      case.small_penalties kept (target-small problem.widths number case.small_widths)
      (omega (arith, closed, case.small_sum)) in search (rules, arith)

  pub SuitQueue-queue_case : SuitQueue (fragment_costs problem)
  SuitQueue-queue_case = search (rules, line_costs-steady, AreConvex-rising, line_costs-small)

  -- nothing of a queue case passes 128 bits
  pub queue_case-fits : ¬ TableOverflows problem
  queue_case-fits (inl wide) = omega (arith, wide, case.small_sum)
  queue_case-fits (inr (j, within, past)) = omega (arith, past, small_entry (fragment_costs problem) SuitQueue-queue_case j within)
