-- What a line and a division cost, and the division of least cost (after Knuth and Plass,
-- "Breaking Paragraphs into Lines").
use Rattle.std.specs.Prelude.{◌≡◌, ℕ, ◌+◌, ◌-◌, ◌*◌, ◌<◌, ◌≤◌, max, Bool, ◌==◌, ◌&&◌, nat_lt}
use Rattle.std.specs.Prelude.{if◌then◌else◌, List, [], ◌∷◌, length, take, reverse, slice_index}
use Rattle.std.specs.Prelude.{sum_by, ⊤, ◌⊎◌, Option, None, Some}
use Rattle.textwrap_base.specs.Sizes.{Sizes}
use Rattle.textwrap_base.specs.Division.{line_width, closed_width, IsDivision}
use Rattle.textwrap_base.specs.Errors.{Passes128Bits}
use Rattle.textwrap_base.specs.declared.penalties.Penalties.{Penalties}

-- ---- a line

-- the sizes of a fragment, and what a line costs more that ends with it
pub record PricedSizes : Type 0 where
  pub sizes : Sizes
  pub break_penalty : ℕ

-- what it usually costs to end a line with a fragment of this penalty width
abbrev pub usual_break_penalty : Penalties → ℕ → ℕ
usual_break_penalty penalties width = if nat_lt 0 width then penalties.hyphen_penalty else 0

-- what it costs to end a line with a fragment of these sizes: what the fragment says, if it does,
-- and else what it usually costs
abbrev pub break_penalty_by : Option ℕ → Penalties → Sizes → ℕ
break_penalty_by None penalties s = usual_break_penalty penalties s.penalty
break_penalty_by (Some own) penalties s = own

-- fragments of these sizes, with the break penalties that they say or the usual ones
abbrev pub priced_by : {X : Type 0} → (X → Sizes) → (X → Penalties → Option ℕ) → Penalties → X
    → PricedSizes
priced_by sizes own penalties x = record {
  sizes = sizes x;
  break_penalty = break_penalty_by (own x penalties) penalties (sizes x);
}

-- sizes with the usual break penalty
abbrev pub priced_at : Penalties → Sizes → PricedSizes
priced_at penalties s = record {
  sizes = s;
  break_penalty = usual_break_penalty penalties s.penalty;
}

-- the cost of a closed width that misses the target, `is_last` where the line ends all fragments
abbrev pub fit_cost : Penalties → ℕ → ℕ → Bool → Bool → ℕ
fit_cost penalties target closed is_last is_single =
    let is_short = is_single && nat_lt (closed * penalties.short_last_line_fraction) target in
    if nat_lt target closed then (closed - target) * penalties.overflow_penalty
    else if is_last then (if is_short then penalties.short_last_line_penalty else 0)
    else (target - closed) * (target - closed)

-- the break penalty of the last fragment
abbrev pub last_break_penalty : {X : Type 0} → (X → PricedSizes) → List X → ℕ
last_break_penalty priced [] = 0
last_break_penalty priced (x ∷ []) = (priced x).break_penalty
last_break_penalty priced (x ∷ y ∷ line) = last_break_penalty priced (y ∷ line)

-- the cost of a line, whose target is its width, or 1 where that is 0; no fragments cost nothing
abbrev pub line_cost : {X : Type 0} → (X → PricedSizes) → Penalties → ℕ → Bool → List X → ℕ
line_cost priced penalties width is_last [] = 0
line_cost priced penalties width is_last (x ∷ line) =
    let closed = closed_width (λ y. (priced y).sizes) (x ∷ line) in
    penalties.nline_penalty
    + fit_cost penalties (max width 1) closed is_last (length (x ∷ line) == 1)
    + last_break_penalty priced (x ∷ line)

-- all widths, whitespace widths and penalty widths together
abbrev pub total_width : {X : Type 0} → (X → Sizes) → List X → ℕ
total_width sizes = sum_by (λ x. (sizes x).width + (sizes x).whitespace + (sizes x).penalty)

-- ---- a division

-- where the lines start that follow `at` fragments
abbrev pub starts_from : {X : Type 0} → ℕ → List (List X) → List ℕ
starts_from at [] = []
starts_from at (line ∷ lines) = at ∷ starts_from (at + length line) lines

-- the first starts that differ are earlier in the former
abbrev pub AreNoLater : List ℕ → List ℕ → Type 0
AreNoLater [] others = ⊤
AreNoLater (start ∷ starts) [] = ⊥
AreNoLater (s ∷ starts) (other ∷ others) = (s < other) ⊎ ((s ≡ other) × AreNoLater starts others)

-- all lines but the first have one width
abbrev pub AreEqualFromSecond : List ℕ → Type 0
AreEqualFromSecond ws = (k : ℕ) → 1 ≤ k → k < length ws → slice_index ws k ≡ slice_index ws 1

-- fragments to be divided at the least cost: what is divided, priced how, with which penalties, and
-- at which line widths
pub record Problem (X : Type 0) : Type 0 where
  pub priced : X → PricedSizes
  pub penalties : Penalties
  pub widths : List ℕ
  pub fragments : List X

abbrev pub problem_by : {X : Type 0} → (X → PricedSizes) → Penalties → List ℕ → List X → Problem X
problem_by priced penalties widths fragments =
    record { priced = priced; penalties = penalties; widths = widths; fragments = fragments }

-- the same where each fragment has the usual break penalty
abbrev pub problem_at : {X : Type 0} → Penalties → (X → Sizes) → List ℕ → List X → Problem X
problem_at penalties sizes = problem_by (λ x. priced_at penalties (sizes x)) penalties

module _ {X : Type 0} (problem : Problem X) where
  -- the cost of the lines that follow `number` lines of `at` fragments
  abbrev pub lines_cost : ℕ → ℕ → List (List X) → ℕ
  lines_cost number at [] = 0
  lines_cost number at (line ∷ lines) =
      line_cost problem.priced problem.penalties (line_width problem.widths number)
      (at + length line == length problem.fragments) line
      + lines_cost (number + 1) (at + length line) lines

  -- the cost of a division of some prefix of the fragments
  abbrev pub division_cost : List (List X) → ℕ
  division_cost lines = lines_cost 0 0 lines

  -- no division costs less, and of those that cost the same the last line starts earliest, then
  -- the line before it, and so on
  pub record IsChosen (lines : List (List X)) : Type 0 where
    pub division : IsDivision problem.fragments lines
    pub least : (others : List (List X)) → IsDivision problem.fragments others
        → division_cost lines ≤ division_cost others
    pub earliest : (others : List (List X)) → IsDivision problem.fragments others
        → division_cost others ≡ division_cost lines
        → AreNoLater (reverse (starts_from 0 lines)) (reverse (starts_from 0 others))

  -- the sum of all widths passes 128 bits
  abbrev pub IsTooWide : Type 0
  IsTooWide = Passes128Bits (total_width (λ x. (problem.priced x).sizes) problem.fragments)

  -- the sum of all widths passes 128 bits, or the cost of each division of some prefix does, and
  -- so the least one
  abbrev pub Overflows : Type 0
  Overflows =
      IsTooWide
      ⊎ ((j : ℕ) × (j ≤ length problem.fragments) × ((lines : List (List X))
      → IsDivision (take j problem.fragments) lines → Passes128Bits (division_cost lines)))

  -- a division of the first j fragments has this cost, and none has less
  pub record IsLeastCost (j cost : ℕ) : Type 0 where
    pub lines : List (List X)
    pub division : IsDivision (take j problem.fragments) lines
    pub reached : division_cost lines ≡ cost
    pub least : (others : List (List X)) → IsDivision (take j problem.fragments) others
        → cost ≤ division_cost others
