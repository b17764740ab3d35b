-- What a filter does with a text.
use Rattle.std.specs.Prelude.{ℕ, Bool, List}

pub record Work : Type 1 where
  -- the first text may become the second
  pub Makes : List ℕ → List ℕ → Type 0
  -- there is something in the text for the filter
  pub applies : List ℕ → Bool
