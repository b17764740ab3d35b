-- How patterns and exceptions are written.
use Rattle.std.specs.Int.{is_in_range}
use Rattle.std.specs.Prelude.{ℕ, ◌-◌, Bool, List, [], ◌∷◌, drop, filter, if◌then◌else◌, map, not}
use Rattle.textwrap_patterns.specs.{Letters.folded, Listed.PatternText}

abbrev pub is_digit : ℕ → Bool
is_digit c = is_in_range 0x30 0x39 c

-- the characters of a pattern that are no digits, as words have them
abbrev pub letters_written : List ℕ → List ℕ
letters_written cs = map folded (filter (λ c. not (is_digit c)) cs)

-- a digit is the level of the place where it stands, the first where there are several; a place
-- without a digit has level 0
abbrev pub levels_written : List ℕ → List ℕ
levels_written [] = 0 ∷ []
levels_written (c ∷ cs) =
    if is_digit c then (c - 0x30) ∷ drop 1 (levels_written cs) else 0 ∷ levels_written cs

abbrev pub pattern_written : List ℕ → PatternText
pattern_written cs = record { letters = letters_written cs; levels = levels_written cs }
