-- Fragments with their prefix sums: what stands before each on a line without end.
use Rattle.std.specs.Prelude.{◌≡◌, ℕ, ◌+◌, ◌<◌, List, length, take, slice_index_or}
use Rattle.textwrap_base.specs.Division.{open_width}
use Rattle.textwrap_base.specs.Cost.{PricedSizes, total_width}
use Rattle.textwrap_base.specs.Errors.{Fits128Bits}

-- each opens after the open width of those before it, and closes with its width and that of its
-- penalty; all widths together keep to 128 bits
pub record HavePrefixSums {X : Type 0} (priced : X → PricedSizes) (opens closes : X → ℕ)
    (xs : List X) : Type 0 where
  pub opens_after : (i : ℕ) (d : X) → i < length xs
      → opens (slice_index_or xs i d) ≡ open_width (λ x. (priced x).sizes) (take i xs)
  pub closes_after : (i : ℕ) (d : X) → i < length xs → let x = slice_index_or xs i d in
      closes x ≡ opens x + (priced x).sizes.width + (priced x).sizes.penalty
  pub total : Fits128Bits (total_width (λ x. (priced x).sizes) xs)
