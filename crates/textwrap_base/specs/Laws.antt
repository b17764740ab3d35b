-- The statements of the laws, each under a name that a caller can cite.
use Rattle.std.specs.Prelude.{◌≡◌, ◌↔◌, ℕ, List}
use Rattle.textwrap_base.specs.Cost.{Problem, AreEqualFromSecond, IsChosen, Overflows}
use Rattle.textwrap_base.specs.Division.{IsGreedy}
use Rattle.textwrap_base.specs.Sizes.{Sizes}
use Rattle.textwrap_base.specs.Table.{table, IsTable, IsByTable, TableOverflows}

-- fragments have at most one greedy division
abbrev pub GreedyDivisionIsUnique : {X : Type 0} → (X → Sizes) → Type 0
GreedyDivisionIsUnique {X} sizes = (widths : List ℕ) (xs : List X) (lines others : List (List X))
    → IsGreedy sizes widths xs lines → IsGreedy sizes widths xs others → lines ≡ others

-- the problem has at most one chosen division
abbrev pub ChosenDivisionIsUnique : {X : Type 0} → Problem X → Type 0
ChosenDivisionIsUnique {X} problem = (lines others : List (List X))
    → IsChosen problem lines → IsChosen problem others → lines ≡ others

-- the problem has at most one division by the table, whatever the line widths
abbrev pub TableDivisionIsUnique : {X : Type 0} → Problem X → Type 0
TableDivisionIsUnique {X} problem = (lines others : List (List X))
    → IsByTable problem lines → IsByTable problem others → lines ≡ others

-- if all lines but the first have one width, the table overflows exactly where the sum of all
-- widths or the least cost of a prefix does
abbrev pub TableOverflowIsOverflow : {X : Type 0} → Problem X → Type 0
TableOverflowIsOverflow problem =
    AreEqualFromSecond problem.widths → TableOverflows problem ↔ Overflows problem

-- a table has in each entry but the first the least of what the entries before it give
abbrev pub TableHasLeastCosts : Type 0
TableHasLeastCosts = (cost : ℕ → ℕ → ℕ → ℕ) (n : ℕ) → IsTable cost n (table cost n)
