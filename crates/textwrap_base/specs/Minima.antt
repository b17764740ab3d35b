-- What a source of line costs shows: the costs that it gives, and how often it was asked for one.
use Rattle.std.specs.Prelude.{ℕ, ◌+◌, ◌-◌, ◌*◌, ◌/◌, ◌^◌, min, max, List}
use Rattle.textwrap_base.specs.Cost.{PricedSizes}
use Rattle.textwrap_base.specs.declared.penalties.Penalties.{Penalties}

-- n fragments, and the cost of the line from one to before another, by its number
pub record Costs : Type 0 where
  pub ends : ℕ
  pub cost : ℕ → ℕ → ℕ → ℕ

-- a count after `more` steps: it stays at the greatest number of 128 bits where it would pass that
abbrev pub counted : ℕ → ℕ → ℕ
counted count more = max count (min (count + more) (2 ^ 128 - 1))

-- the steps of a table over n fragments: one for each line from a start to a later end
abbrev pub table_steps : ℕ → ℕ
table_steps n = n * (n + 1) / 2

-- what line costs come from, and how often one was asked for
pub record LineCostsView : Type 0 where
  pub priced : List PricedSizes
  pub widths : List ℕ
  pub penalties : Penalties
  pub steps : ℕ
