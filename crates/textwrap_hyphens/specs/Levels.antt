-- Hyphenation by patterns (Liang 1983): the levels that patterns give to the places of a word.
use Rattle.std.specs.List.{range_with_len, starts_with}
use Rattle.std.specs.Prelude.{ℕ, suc, ◌+◌, ◌-◌, List, [], ◌∷◌, ◌++◌, drop, if◌then◌else◌, length}
use Rattle.std.specs.Prelude.{map, nat_eq, slice_index}
use Rattle.textwrap_patterns.specs.{Listed.PatternText, Merging.greatest}

-- how many letters the longest pattern has
abbrev pub longest : List PatternText → ℕ
longest patterns = greatest (map (λ p. length p.letters) patterns)

-- the level of a pattern at a place of a text that begins with its letters, else 0
abbrev pub level_in : PatternText → List ℕ → ℕ → ℕ
level_in pattern text place =
    if starts_with nat_eq text pattern.letters then slice_index pattern.levels place else 0

-- the greatest level that patterns at the beginning of a text have at a place of it
abbrev pub pattern_level_from : List PatternText → List ℕ → ℕ → ℕ
pattern_level_from patterns text place = greatest (map (λ p. level_in p text place) patterns)

-- the greatest level at a place that something has which stands in a text, over all places where it
-- may begin, each with the levels from there on
abbrev pub level : (List ℕ → ℕ → ℕ) → List ℕ → ℕ → ℕ
level from dotted place =
    greatest (map (λ at. from (drop at dotted) (place - at)) (range_with_len 0 (suc place)))

-- `.`, which stands for the beginning and the end of a word
abbrev pub dot : ℕ
dot = 46

-- the letters of a word between two dots
abbrev pub dotted : List ℕ → List ℕ
dotted letters = dot ∷ (letters ++ dot ∷ [])

-- the levels of all places of a dotted word, also of the one before it and the one behind it
abbrev pub levels_of : (List ℕ → ℕ → ℕ) → List ℕ → List ℕ
levels_of from letters = map (level from (dotted letters)) (range_with_len 0 (length letters + 3))
