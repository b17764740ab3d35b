-- What optimal fit gives.
use Rattle.std.specs.Prelude.{◌≡◌, List, Result, Ok, Err, IfOk, OnOk, ⊤}
use Rattle.textwrap_base.specs.Cost.{Problem, total_width, AreEqualFromSecond, IsChosen, IsTooWide}
use Rattle.textwrap_base.specs.Cost.{Overflows}
use Rattle.textwrap_base.specs.Table.{IsByTable, TableOverflows}
use Rattle.textwrap_base.specs.Errors.{Fits64Bits, Overflowed}
use Rattle.textwrap_base.specs.declared.errors.WrapError.{WrapError}

module _ {X : Type 0} (problem : Problem X) where
  -- the division by the table, the chosen one where the line widths are equal from the second on
  pub record IsByOptimalFit (lines : List (List X)) : Type 0 where
    pub by_table : IsByTable problem lines
    pub chosen : AreEqualFromSecond problem.widths → IsChosen problem lines

  -- what a call returns: such a division, where `lines` gives the lines of the value, or an error,
  -- which is Overflow only where a sum or a cost passes 128 bits; where one does, it is never Ok
  pub record IsOptimalFitResult {A : Type 0} (lines : A → List (List X)) (r : Result A WrapError)
      : Type 0 where
    pub divided : IfOk r (λ value. IsByOptimalFit (lines value))
    pub overflow_only : AreEqualFromSecond problem.widths → Overflowed r → Overflows problem
    pub ok_only : AreEqualFromSecond problem.widths → OnOk r (¬ Overflows problem)
    pub table_overflow_only : Overflowed r → TableOverflows problem
    pub table_ok_only : OnOk r (¬ TableOverflows problem)
    pub too_wide : IsTooWide problem → Overflowed r
    pub no_overflow : Fits64Bits (total_width (λ x. (problem.priced x).sizes) problem.fragments)
        → ¬ Overflowed r

  -- where both are Ok they have the same lines, and where one overflows the other is not Ok
  abbrev pub IsSameResult : {A : Type 0} → (A → List (List X)) → Result A WrapError
      → Result A WrapError → Type 0
  IsSameResult {A} lines (Ok value) (Ok other) = lines value ≡ lines other
  IsSameResult {A} lines (Ok value) (Err error) = ¬ Overflowed {A = A} (Err error)
  IsSameResult {A} lines (Err error) (Ok other) = ¬ Overflowed {A = A} (Err error)
  IsSameResult {A} lines (Err error) (Err other) = ⊤

  -- the result is that of each such call, but for memory that runs out
  abbrev pub IsTheResult : {A : Type 0} → (A → List (List X)) → Result A WrapError → Type 0
  IsTheResult {A} lines r =
      (other : Result A WrapError) → IsOptimalFitResult lines other → IsSameResult lines r other
