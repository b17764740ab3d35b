-- Laws of the definitions on hyphenation.
use Rattle.std.specs.Prelude.{◌≡◌, ◌≢◌, ℕ, ◌<◌, ◌≤◌, ◌^◌, List, ◌∷◌, ◌++◌, All, Contains, false, true}
use Rattle.textwrap_hyphens.specs.{Levels.level, Levels.pattern_level_from, Seal.is_sealed}
use Rattle.textwrap_patterns.specs.Listed.{PatternText}

-- patterns that are all among others give no place a higher level: so neither their order nor one
-- that stands twice makes a difference, and one more can only raise levels
abbrev pub MorePatternsRaiseLevels : Type 0
MorePatternsRaiseLevels =
    (patterns others : List PatternText) (dotted : List ℕ) (place : ℕ)
    → All (λ p. Contains others p) patterns
    → level (pattern_level_from patterns) dotted place ≤ level (pattern_level_from others) dotted place

-- where one number of a dictionary became another, that is told
abbrev pub OneChangeIsTold : Type 0
OneChangeIsTold =
    (before after : List ℕ) (old new : ℕ) → old < 2 ^ 64 → new < 2 ^ 64 → new ≢ old
    → is_sealed (before ++ old ∷ after) ≡ true → is_sealed (before ++ new ∷ after) ≡ false
