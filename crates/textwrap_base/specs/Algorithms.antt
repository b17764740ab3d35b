-- The built-in algorithms: how each divides fragments, and what it refuses.
use Rattle.std.specs.Prelude.{ℕ, List}
use Rattle.textwrap_base.specs.Cost.{problem_at}
use Rattle.textwrap_base.specs.Division.{IsGreedy}
use Rattle.textwrap_base.specs.OptimalFit.{IsByOptimalFit}
use Rattle.textwrap_base.specs.Sizes.{Sizes}
use Rattle.textwrap_base.specs.Table.{TableOverflows}
use Rattle.textwrap_base.specs.declared.penalties.Penalties.{Penalties}

-- a built-in way to divide fragments
pub data Algorithm : Type 0 where
  ByFirstFit : Algorithm
  ByOptimalFit : Penalties → Algorithm

module _ {X : Type 0} where
  -- the algorithm's division of the fragments
  abbrev pub IsDividedBy : Algorithm → (X → Sizes) → List ℕ → List X → List (List X) → Type 0
  IsDividedBy ByFirstFit sizes widths fragments lines = IsGreedy sizes widths fragments lines
  IsDividedBy (ByOptimalFit penalties) sizes widths fragments lines =
      IsByOptimalFit (problem_at penalties sizes widths fragments) lines

  -- the algorithm refuses these with Overflow: the greedy one refuses none, the one of least cost
  -- where its table overflows
  abbrev pub OverflowsBy : Algorithm → (X → Sizes) → List ℕ → List X → Type 0
  OverflowsBy ByFirstFit sizes widths fragments = ⊥
  OverflowsBy (ByOptimalFit penalties) sizes widths fragments =
      TableOverflows (problem_at penalties sizes widths fragments)
