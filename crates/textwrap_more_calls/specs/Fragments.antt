-- What the numbers of a caller's fragments mean, and where lines of them end.
use Rattle.std.specs.Prelude.{◌≡◌, ℕ, ◌+◌, List, [], ◌∷◌, length}
use Rattle.textwrap_base.specs.Cost.{PricedSizes, Problem, problem_by}
use Rattle.textwrap_base.specs.{Sizes.Sizes, declared.penalties.Penalties.Penalties}
use Rattle.textwrap_more_calls.specs.declared.fragments.TextwrapFragment.{TextwrapFragment}
use Rattle.textwrap_more_calls.specs.declared.fragments.TextwrapPenalties.{TextwrapPenalties}

abbrev pub fragment_sizes : TextwrapFragment → Sizes
fragment_sizes f = record {
  width = f.width;
  whitespace = f.whitespace_width;
  penalty = f.penalty_width;
}

-- with what a line costs more that ends with the fragment
abbrev pub priced_of : TextwrapFragment → PricedSizes
priced_of f = record { sizes = fragment_sizes f; break_penalty = f.break_penalty }

-- each fragment says what a break after it costs, so nothing else does
abbrev pub fragment_penalties : TextwrapPenalties → Penalties
fragment_penalties p = record {
  nline_penalty = p.nline_penalty;
  overflow_penalty = p.overflow_penalty;
  short_last_line_fraction = p.short_last_line_fraction;
  short_last_line_penalty = p.short_last_line_penalty;
  hyphen_penalty = 0;
}

abbrev pub fragments_problem : TextwrapPenalties → List ℕ → List TextwrapFragment
    → Problem TextwrapFragment
fragments_problem penalties = problem_by priced_of (fragment_penalties penalties)

-- the numbers in reserve are 0
pub record AreKnownPenalties (p : TextwrapPenalties) : Type 0 where
  pub reserved_sizes : p.reserved_sizes ≡ 0 ∷ 0 ∷ 0 ∷ 0 ∷ []

-- where lines end that follow `at` elements: how many there are up to there
abbrev pub line_ends_from : {X : Type 0} → ℕ → List (List X) → List ℕ
line_ends_from at [] = []
line_ends_from at (line ∷ lines) = (at + length line) ∷ line_ends_from (at + length line) lines

abbrev pub ends_of : {X : Type 0} → List (List X) → List ℕ
ends_of lines = line_ends_from 0 lines

-- these are the ends of such lines
abbrev pub AreEndsOf : {X : Type 0} → (List (List X) → Type 0) → List ℕ → Type 0
AreEndsOf {X} Are ends = (lines : List (List X)) × Are lines × (ends ≡ ends_of lines)
