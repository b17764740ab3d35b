-- Lines between given ends.
use Rattle.std.specs.Prelude.{ℕ, ◌≤◌, List, [], ◌∷◌, length, slice_range}
use Rattle.textwrap_words.specs.Cuts.{AreNext}

-- of so many elements, a line may end so after the last one
abbrev pub IsNextEnd : ℕ → ℕ → ℕ → Type 0
IsNextEnd count last end = (last ≤ end) × (end ≤ count)

-- lines of these elements may end so: no line ends before the one before it, or past the elements
abbrev pub AreEnds : {X : Type 0} → List X → List ℕ → Type 0
AreEnds xs ends = AreNext (IsNextEnd (length xs)) ends 0

-- the lines, each from where the one before it ends to its own end
abbrev pub lines_from : {X : Type 0} → List X → ℕ → List ℕ → List (List X)
lines_from xs start [] = []
lines_from xs start (end ∷ ends) = slice_range xs start end ∷ lines_from xs end ends

abbrev pub lines_between : {X : Type 0} → List ℕ → List X → List (List X)
lines_between ends xs = lines_from xs 0 ends
