-- What one line costs: its gap, its slices, its sizes, its bounds, and that line costs are convex.
use Rattle.textwrap_text.proofs.Common.{get_or-map, length-map, nat_tests, slice_range, sum_by-cons}
use Rattle.textwrap_text.proofs.Common.{add-zero, All-head, All-map, All-tail, cases_lt, take-map}
use Rattle.textwrap_text.proofs.Common.{All, arith, Bool, false, get_or, length, List, rules, subst}
use Rattle.textwrap_text.proofs.Common.{eqb, map, max, refl, suc, sym, take, zero, ◌*◌, ◌++◌, ◌+◌}
use Rattle.textwrap_text.proofs.Common.{[], ap, ℕ, ◌-◌, ◌<◌, ◌∙◌, ◌∷◌, ◌≡◌, ◌≤◌}
use Rattle.textwrap_text.proofs.Lists.Parts.{length-slice, slice_push, take_slice}
use Rattle.textwrap_text.proofs.Numbers.{if_le}
use Rattle.std.proofs.{lemmas.List.drop-map, lemmas.List.Sums.sum_by-take-le, Math.Nat.mul-le-mul}
use Rattle.textwrap_base.proofs.Common.{AreAtMost, closed_width, fragment_costs, last_break_penalty}
use Rattle.textwrap_base.proofs.Common.{AreConvex, line_costs, NeverFalls, PricedSizes, total_width}
use Rattle.textwrap_base.proofs.Common.{line_cost, line_width, open_width, Penalties, problem_by}
use Rattle.textwrap_base.proofs.Common.{fit_cost, Measure, measured, Problem, Sizes}
use Rattle.textwrap_base.proofs.Division.Greedy.{closed_width-push, open_width-append}
use Rattle.textwrap_base.proofs.Division.Greedy.{closed_width-map}
use mathlib.Core.Path.{fun_ext}

-- ---- what it costs to miss the target

module _ (p : Penalties) (target : ℕ) where
  -- what a line of this closed width adds where others follow it
  abbrev pub gap_cost : ℕ → ℕ
  gap_cost closed = fit_cost p target closed false false

  gap_cost-under : (gap closed : ℕ) → closed + gap ≡ target → gap_cost closed ≡ gap * gap
  gap_cost-under gap closed is = grind (arith, nat_tests)

  gap_cost-over : (more closed : ℕ) → closed ≡ target + more
      → gap_cost closed ≡ more * p.overflow_penalty
  gap_cost-over zero closed is = gap_cost-under 0 closed (omega arith) ∙ omega arith
  gap_cost-over (suc more) closed is = grind (arith, nat_tests)

  -- the difference that a unit makes never falls
  gap_cost-next : (closed : ℕ)
      → gap_cost (closed + 1) + gap_cost (closed + 1) ≤ gap_cost (closed + 2) + gap_cost closed
  gap_cost-next closed = grind (arith, cases_lt, gap_cost-over, gap_cost-under)

  gap_cost-step : (closed more : ℕ) → gap_cost (closed + 1) + gap_cost (closed + more)
      ≤ gap_cost (closed + more + 1) + gap_cost closed
  gap_cost-step closed zero = rw add-zero (omega arith)
  gap_cost-step closed (suc more) = grind (arith, gap_cost-next, gap_cost-step closed more)

  pub gap_cost-convex : (closed u v : ℕ) → gap_cost (closed + u) + gap_cost (closed + v)
      ≤ gap_cost (closed + u + v) + gap_cost closed
  gap_cost-convex closed zero v = rw add-zero (omega arith)
  gap_cost-convex closed (suc u) v =
      let same : closed + suc u ≡ closed + u + 1 = omega arith in
      let next : closed + u + 1 + v ≡ closed + u + v + 1 = omega arith in
      rw (same, next) (omega (arith, gap_cost-convex closed u v, gap_cost-step (closed + u) v))

-- ---- the widths and the cost of a part of a list of fragments

module _ {X : Type 0} (priced : X → PricedSizes) where
  pub last_break_penalty-push : (xs : List X) (x : X)
      → last_break_penalty priced (xs ++ x ∷ []) ≡ (priced x).break_penalty
  last_break_penalty-push [] x = refl
  last_break_penalty-push (y ∷ []) x = refl
  last_break_penalty-push (y ∷ z ∷ xs) x = last_break_penalty-push (z ∷ xs) x

  pub line_cost-push : (penalties : Penalties) (width : ℕ) (is_last : Bool) (xs : List X) (x : X)
      → line_cost priced penalties width is_last (xs ++ x ∷ [])
      ≡ penalties.nline_penalty + fit_cost penalties (max width 1)
      (closed_width (λ y. (priced y).sizes) (xs ++ x ∷ [])) is_last
      (eqb (length (xs ++ x ∷ [])) 1) + (priced x).break_penalty
  line_cost-push penalties width is_last [] x = refl
  line_cost-push penalties width is_last (y ∷ xs) x =
      ap (λ n. penalties.nline_penalty + fit_cost penalties (max width 1)
      (closed_width (λ y. (priced y).sizes) (y ∷ (xs ++ x ∷ []))) is_last
      (eqb (length (y ∷ (xs ++ x ∷ []))) 1) + n) (last_break_penalty-push (y ∷ xs) x)

-- a part is the one without its last element, and that element
slice_pushed : {X : Type 0} (xs : List X) (i j : ℕ) (d : X) → i < j → j ≤ length xs
    → slice_range xs i j ≡ slice_range xs i (j - 1) ++ get_or xs (j - 1) d ∷ []
slice_pushed xs i j d h l = search (rules, arith, slice_push)

pub open_width-slice : {X : Type 0} (sizes : X → Sizes) (xs : List X) (i k : ℕ) → i ≤ k
    → open_width sizes (take i xs) + open_width sizes (slice_range xs i k) ≡ open_width sizes
    (take k xs)
open_width-slice sizes xs i k h = sym (open_width-append sizes (take i xs) (slice_range xs i k))
    ∙ ap (open_width sizes) (sym (take_slice xs i k h))

-- a line's closed width is a difference of running sums
pub closed_width-slice : {X : Type 0} (sizes : X → Sizes) (xs : List X) (i j : ℕ) (d : X) → i < j
    → j ≤ length xs
    → open_width sizes (take i xs) + closed_width sizes (slice_range xs i j)
    ≡ open_width sizes (take (j - 1) xs) + (sizes (get_or xs (j - 1) d)).width +
    (sizes (get_or xs (j - 1) d)).penalty
closed_width-slice sizes xs i j d h l =
    let e = ap (closed_width sizes) (slice_pushed xs i j d h l)
    ∙ closed_width-push sizes (slice_range xs i (j - 1)) (get_or xs (j - 1) d) in
    omega (arith, e, open_width-slice sizes xs i (j - 1) (omega arith))

pub line_cost-slice : {X : Type 0} (priced : X → PricedSizes) (penalties : Penalties) (width : ℕ)
    (is_last : Bool) (xs : List X) (i j : ℕ) (d : X) → i < j → j ≤ length xs
    → line_cost priced penalties width is_last (slice_range xs i j)
    ≡ penalties.nline_penalty + fit_cost penalties (max width 1)
    (closed_width (λ x. (priced x).sizes) (slice_range xs i j)) is_last (eqb j (i + 1)) +
    (priced (get_or xs (j - 1) d)).break_penalty
line_cost-slice priced penalties width is_last xs i j d h l =
    let single : eqb (j - i) 1 ≡ eqb j (i + 1) = grind (arith, nat_tests) in
    rw (← slice_pushed xs i j d h l, length-slice xs i j l, single) at
    (line_cost-push priced penalties width is_last (slice_range xs i (j - 1)) (get_or xs (j - 1) d))

-- ---- nothing but the sizes of fragments decides what lines of them cost

module _ {X : Type 0} (sizes : X → Sizes) where
  pub total_width-cons : (x : X) (xs : List X)
      → total_width sizes (x ∷ xs) ≡ (sizes x).width + (sizes x).whitespace +
      (sizes x).penalty + total_width sizes xs
  total_width-cons x xs = search (rules, arith, sum_by-cons)

pub last_break_penalty-map : {X : Type 0} (priced : X → PricedSizes) (xs : List X)
    → last_break_penalty (λ (p : PricedSizes). p) (map priced xs) ≡ last_break_penalty priced xs
last_break_penalty-map priced [] = refl
last_break_penalty-map priced (x ∷ []) = refl
last_break_penalty-map priced (x ∷ y ∷ xs) = last_break_penalty-map priced (y ∷ xs)

pub line_cost-map : {X : Type 0} (priced : X → PricedSizes) (penalties : Penalties) (width : ℕ)
    (is_last : Bool) (line : List X)
    → line_cost (λ (p : PricedSizes). p) penalties width is_last (map priced line)
    ≡ line_cost priced penalties width is_last line
line_cost-map priced penalties width is_last [] = refl
line_cost-map priced penalties width is_last (x ∷ line) =
    grind (arith, closed_width-map, last_break_penalty-map, length-map)

-- the problem of the priced sizes alone
abbrev pub priced_alone : {X : Type 0} → Problem X → Problem PricedSizes
priced_alone p = problem_by (λ s. s) p.penalties p.widths (map p.priced p.fragments)

pub line_costs-at : {X : Type 0} (problem : Problem X) (i j number : ℕ)
    → line_costs (priced_alone problem) i j number ≡ line_costs problem i j number
line_costs-at problem i j number = search (length-map, drop-map, take-map, line_cost-map)

-- the costs of the priced sizes are those of the fragments
pub line_costs-map : {X : Type 0} (problem : Problem X)
    → line_costs (priced_alone problem) ≡ line_costs problem
line_costs-map problem = fun_ext (λ i. fun_ext (λ j. fun_ext (line_costs-at problem i j)))

-- ---- what one line costs at most, where its numbers keep to a limit

pub closed_width-le : {X : Type 0} (sizes : X → Sizes) (line : List X)
    → closed_width sizes line ≤ total_width sizes line
closed_width-le sizes [] = omega arith
closed_width-le sizes (x ∷ []) = omega arith
closed_width-le sizes (x ∷ y ∷ line) =
    search (rules, arith, total_width-cons, closed_width-le sizes (y ∷ line))

pub total_width-take : {X : Type 0} (sizes : X → Sizes) (xs : List X) (j : ℕ)
    → total_width sizes (take j xs) ≤ total_width sizes xs
total_width-take {X = X} sizes xs j = search (rules, arith, sum_by-take-le)

module _ (limit : ℕ) where
  fit_cost-le : (p : Penalties) (t closed : ℕ) (is_last is_single : Bool) → AreAtMost limit p
      → 1 ≤ t → t ≤ limit → closed ≤ limit → fit_cost p t closed is_last is_single ≤ limit * limit
  fit_cost-le p t closed is_last is_single h some k l = grind (arith, mul-le-mul, if_le)

  -- break penalties keep to the limit where those of the measures do
  break_penalties-map : {X : Type 0} (priced : X → PricedSizes) (xs : List X)
      → All (λ (p : PricedSizes). p.break_penalty ≤ limit) (map priced xs)
      → All (λ x. (priced x).break_penalty ≤ limit) xs
  break_penalties-map priced xs all = λ k d l. rw (get_or-map priced xs k d (priced d) l) at
      (all k (priced d) (omega (arith, length-map xs priced)))

  pub break_penalties-measured : {X : Type 0} (priced : X → PricedSizes) (measures : List Measure)
      (xs : List X) → map measured measures ≡ map priced xs
      → All (λ (m : Measure). m.break_penalty ≤ limit) measures
      → All (λ x. (priced x).break_penalty ≤ limit) xs
  break_penalties-measured priced measures xs same all =
      let kept : PricedSizes → Type 0 = λ p. p.break_penalty ≤ limit in
      break_penalties-map priced xs (subst (All kept) same (All-map kept measured measures all))

  module _ {X : Type 0} (priced : X → PricedSizes) where
    last_break_penalty-le : (line : List X) → All (λ x. (priced x).break_penalty ≤ limit) line
        → last_break_penalty priced line ≤ limit
    last_break_penalty-le [] all = omega arith
    last_break_penalty-le (x ∷ []) all = All-head (λ x. (priced x).break_penalty ≤ limit) x [] all
    last_break_penalty-le (x ∷ y ∷ line) all =
        last_break_penalty-le (y ∷ line) (All-tail (λ x. (priced x).break_penalty ≤ limit) x
        (y ∷ line) all)

    pub line_cost-le : (p : Penalties) (width : ℕ) (is_last : Bool) (line : List X)
        → AreAtMost limit p → All (λ x. (priced x).break_penalty ≤ limit) line → max width 1 ≤ limit
        → closed_width (λ x. (priced x).sizes) line ≤ limit
        → line_cost priced p width is_last line ≤ limit * limit + 2 * limit
    line_cost-le p width is_last [] h breaks k l = omega arith
    line_cost-le p width is_last (x ∷ line) h breaks k l =
        search (rules, fit_cost-le, last_break_penalty-le)

-- ---- the cost of a line

-- the closed width of a prefix: what stands before a line, and the line
closed_width-prefix : {X : Type 0} (sizes : X → Sizes) (xs : List X) (i j : ℕ) (d : X) → i < j
    → j ≤ length xs
    → open_width sizes (take i xs) + closed_width sizes (slice_range xs i j)
    ≡ closed_width sizes (take j xs)
closed_width-prefix sizes xs i j d h l =
    let from_start : j - 0 ≡ j = omega arith in
    let whole = rw from_start at (closed_width-slice sizes xs 0 j d (omega arith) l) in
    omega (arith, whole, closed_width-slice sizes xs i j d h l)

closed_width-rises : {X : Type 0} (sizes : X → Sizes) (xs : List X) → NeverFalls sizes xs
    → (j more : ℕ) → 0 < j → j + more ≤ length xs
    → closed_width sizes (take j xs) ≤ closed_width sizes (take (j + more) xs)
closed_width-rises sizes xs rising j zero some l = rw add-zero (omega arith)
closed_width-rises sizes xs rising j (suc more) some l =
    grind (arith, closed_width-rises sizes xs rising j more some (omega arith))

some_element : {X : Type 0} (xs : List X) → 0 < length xs → X
some_element [] some = absurd (omega arith)
some_element (x ∷ xs) some = x

module _ {X : Type 0} (problem : Problem X) where
  abbrev closed : ℕ → ℕ
  closed j = closed_width (λ x. (problem.priced x).sizes) (take j problem.fragments)

  abbrev opened : ℕ → ℕ
  opened i = open_width (λ x. (problem.priced x).sizes) (take i problem.fragments)

  -- a line that does not end all fragments, by its closed width and its last fragment
  line_costs-inner : (i j number : ℕ) (d : X) → i < j → j < length problem.fragments
      → line_costs problem i j number
      ≡ problem.penalties.nline_penalty
      + gap_cost problem.penalties (max (line_width problem.widths number) 1) (closed j - opened i)
      + (problem.priced (get_or problem.fragments (j - 1) d)).break_penalty
  line_costs-inner i j number d h l = grind (arith, nat_tests, closed_width-prefix, line_cost-slice)

  pub AreConvex-rising : NeverFalls (λ x. (problem.priced x).sizes) problem.fragments
      → AreConvex (fragment_costs problem)
  AreConvex-rising rising a b c d some ab bc cd within =
      let x = some_element problem.fragments (omega arith) in
      let sizes : X → Sizes = λ x. (problem.priced x).sizes in
      let between = closed c - opened b in
      let u = opened b - opened a in
      let v = closed d - closed c in
      let before = open_width-slice sizes problem.fragments a b (omega arith) in
      let first = closed_width-prefix sizes problem.fragments b c x bc (omega arith) in
      let to_end : c + (d - c) ≡ d = omega arith in
      let rise = rw to_end at (closed_width-rises sizes problem.fragments rising c (d - c)
      (omega arith) (omega arith)) in
      let ac : closed c - opened a ≡ between + u = omega (arith, before, first, rise) in
      let bd : closed d - opened b ≡ between + v = omega (arith, before, first, rise) in
      let ad : closed d - opened a ≡ between + u + v = omega (arith, before, first, rise) in
      rw (
        line_costs-inner a c 1 x (omega arith) (omega arith),
        line_costs-inner b d 1 x (omega arith) (omega arith),
        line_costs-inner a d 1 x (omega arith) (omega arith),
        line_costs-inner b c 1 x (omega arith) (omega arith),
        ac,
        bd,
        ad,
      )
      (omega (arith, gap_cost-convex problem.penalties (max (line_width problem.widths 1) 1) between u v))
