-- What a call refuses, and the numbers that it can still hold.
use Rattle.std.specs.Prelude.{ℕ, ◌≡◌, ◌^◌, ◌<◌, ◌≤◌, ⊤, Result, Ok, Err, IfErr, alloc_error}
use Rattle.textwrap_base.specs.declared.errors.WrapError.{WrapError}
use Rattle.textwrap_base.specs.declared.errors.WrapError.TheVariants.{Memory, Overflow}

abbrev pub Fits64Bits : ℕ → Type 0
Fits64Bits n = n < 2 ^ 64

abbrev pub Fits128Bits : ℕ → Type 0
Fits128Bits n = n < 2 ^ 128

abbrev pub Passes128Bits : ℕ → Type 0
Passes128Bits n = 2 ^ 128 ≤ n

-- the call returned Overflow
abbrev pub Overflowed : {A : Type 0} → Result A WrapError → Type 0
Overflowed (Ok value) = ⊥
Overflowed (Err (Memory error)) = ⊥
Overflowed (Err (Overflow error)) = ⊤

-- the call returned no error but out of memory
abbrev pub OnlyMemoryRunsOut : {A : Type 0} → Result A WrapError → Type 0
OnlyMemoryRunsOut result = IfErr result (λ error. error ≡ Memory alloc_error)
