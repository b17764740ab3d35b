-- The problem of dividing fragments at the least cost.
use Rattle.std.specs.Prelude.{ℕ, List}
use Rattle.textwrap_base.specs.Cost.{Problem, problem_by, priced_by}
use Rattle.textwrap_base.specs.declared.fragments.Fragment.{Ghosts}
use Rattle.textwrap_base.specs.declared.penalties.Penalties.{Penalties}

-- of fragments with the sizes and break penalties that their type gives them
abbrev pub problem_of : {X : Type 0} → Ghosts X → Penalties → List ℕ → List X → Problem X
problem_of fragment penalties =
    problem_by (priced_by fragment.sizes fragment.own_break_penalty penalties) penalties
