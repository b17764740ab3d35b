-- The search for least costs by a queue: which line costs it takes, and which fragments have them.
use Rattle.std.specs.Prelude.{◌≡◌, ℕ, zero, suc, ◌+◌, ◌/◌, ◌^◌, ◌<◌, ◌≤◌, List, length, slice_index}
use Rattle.std.specs.Prelude.{◌*◌, take, Result, OnOk, All}
use Rattle.textwrap_base.specs.Cost.{Problem, AreEqualFromSecond, total_width}
use Rattle.textwrap_base.specs.Division.{closed_width}
use Rattle.textwrap_base.specs.Minima.{Costs, counted}
use Rattle.textwrap_base.specs.Sizes.{Sizes}
use Rattle.textwrap_base.specs.declared.penalties.Penalties.{Penalties}

-- ---- line costs

-- how many binary digits n has, at most so many
abbrev pub digits_within : ℕ → ℕ → ℕ
digits_within zero n = 0
digits_within (suc most) zero = 0
digits_within (suc most) (suc n) = suc (digits_within most (suc n / 2))

-- how many it has: n has at most n of them, and 0 has none
abbrev pub binary_digits : ℕ → ℕ
binary_digits n = digits_within n n

module _ (costs : Costs) where
  -- the number of a line changes nothing, for starts and numbers from 1 on
  abbrev pub IgnoreNumbers : Type 0
  IgnoreNumbers = (start end number : ℕ) → 0 < start → start < end → end ≤ costs.ends → 0 < number
      → costs.cost start end number ≡ costs.cost start end 1

  -- two lines that overlap cost no more than the line of both and the line of what they share; the
  -- first start and the last end are left out
  abbrev pub AreConvex : Type 0
  AreConvex = (a b c d : ℕ) → 0 < a → a < b → b < c → c < d → d < costs.ends
      → costs.cost a c 1 + costs.cost b d 1 ≤ costs.cost a d 1 + costs.cost b c 1

  -- no line costs more than 2^125
  abbrev pub AreSmall : Type 0
  AreSmall = (start end number : ℕ) → start < end → end ≤ costs.ends
      → costs.cost start end number ≤ 2 ^ 125

  -- what a search by a queue asks of the costs
  pub record SuitQueue : Type 0 where
    pub numbers : IgnoreNumbers
    pub convex : AreConvex
    pub small : AreSmall

-- the count went from old to new by at most n(10 + 2d) steps, for the d binary digits of n, and
-- where all was found by at least n
pub record CountsSearch {A E : Type 0} (n old new : ℕ) (result : Result A E) : Type 0 where
  pub most : new ≤ old + n * (10 + 2 * binary_digits n)
  pub never_less : old ≤ new
  pub ok : OnOk result (counted old n ≤ new)
  pub from_none : OnOk result (old ≡ 0 → n ≤ new)

-- ---- fragments

-- the greatest number of the queue case
abbrev pub queue_limit : ℕ
queue_limit = 2 ^ 62

-- the closed width of the first j fragments never falls as j grows
abbrev pub NeverFalls : {X : Type 0} → (X → Sizes) → List X → Type 0
NeverFalls sizes xs = (j : ℕ) → 0 < j → j < length xs
    → closed_width sizes (take j xs) ≤ closed_width sizes (take (j + 1) xs)

-- each of the five is at most this
pub record AreAtMost (limit : ℕ) (p : Penalties) : Type 0 where
  pub nline : p.nline_penalty ≤ limit
  pub overflow : p.overflow_penalty ≤ limit
  pub fraction : p.short_last_line_fraction ≤ limit
  pub short_last_line : p.short_last_line_penalty ≤ limit
  pub hyphen : p.hyphen_penalty ≤ limit

-- all lines but the first have one width, closed widths never fall, and all numbers are small
pub record IsQueueCase {X : Type 0} (problem : Problem X) : Type 0 where
  pub equal : AreEqualFromSecond problem.widths
  pub rising : NeverFalls (λ x. (problem.priced x).sizes) problem.fragments
  pub small_widths : (l : ℕ) → l < length problem.widths
      → slice_index problem.widths l ≤ queue_limit
  pub small_penalties : AreAtMost queue_limit problem.penalties
  pub small_break_penalties : All (λ x. (problem.priced x).break_penalty ≤ queue_limit)
      problem.fragments
  pub small_sum : total_width (λ x. (problem.priced x).sizes) problem.fragments ≤ queue_limit
