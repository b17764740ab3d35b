-- Places between numbered things: each above the one before it, and inside.
use Rattle.std.specs.Prelude.{ℕ, ◌<◌, Bool, true, ◌&&◌, List, [], ◌∷◌, nat_lt}
use Rattle.textwrap_words.specs.Cuts.{AreNext}

abbrev pub IsNextPlace : ℕ → ℕ → ℕ → Type 0
IsNextPlace len last place = (last < place) × (place < len)

-- places inside a word of so many letters, which increase: each behind so many letters
abbrev pub AreInnerPlaces : ℕ → List ℕ → Type 0
AreInnerPlaces len places = AreNext (IsNextPlace len) places 0

-- whether places increase, above the last one and inside a word of so many letters
abbrev pub are_places : ℕ → ℕ → List ℕ → Bool
are_places len last [] = true
are_places len last (place ∷ places) =
    (nat_lt last place && nat_lt place len) && are_places len place places
