-- What the functions of a caller answer.
use Rattle.std.specs.Prelude.{ℕ, ◌==◌, List, [], ◌∷◌, length, if◌then◌else◌}
use Rattle.std.specs.Str.{bytes_eq}

-- the bytes of a wide character, a blank and a `b`
abbrev pub wide_line : List ℕ
wide_line = 236 ∷ 149 ∷ 136 ∷ 32 ∷ 98 ∷ []

-- these numbers for this text, and none for another
abbrev pub only_of : List ℕ → List ℕ → List ℕ → List ℕ
only_of text numbers line = if bytes_eq line text then numbers else []

-- these numbers for so many items, and none for fewer or more
abbrev pub only_for : {X : Type 0} → ℕ → List ℕ → List X → List ℕ
only_for count numbers items = if length items == count then numbers else []
