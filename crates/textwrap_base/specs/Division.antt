-- Divisions of a list of fragments into lines, whatever the fragments are.
use Rattle.std.specs.Prelude.{◌≡◌, ◌≢◌, ℕ, ◌+◌, ◌-◌, ◌<◌, ◌≤◌, min, List, [], ◌∷◌, ◌++◌, length}
use Rattle.std.specs.Prelude.{take, slice_index, sum_by, All, ⊤}
use Rattle.std.specs.List.{flat_map}
use Rattle.textwrap_base.specs.Sizes.{Sizes}

-- the width of line l, counted from 0: the last width serves all later lines; without any it is 0
abbrev pub line_width : List ℕ → ℕ → ℕ
line_width widths l = slice_index widths (min l (length widths - 1))

-- the lines are the fragments in order, none of them empty; no fragments give one empty line
abbrev pub IsDivision : {X : Type 0} → List X → List (List X) → Type 0
IsDivision [] lines = lines ≡ [] ∷ []
IsDivision (x ∷ xs) lines = (flat_map (λ line. line) lines ≡ x ∷ xs) × All (λ line. line ≢ []) lines

module _ {X : Type 0} (sizes : X → Sizes) where
  -- what a line takes that ends with its last fragment: there the penalty stands in place of the
  -- whitespace
  abbrev pub closed_width : List X → ℕ
  closed_width [] = 0
  closed_width (x ∷ []) = (sizes x).width + (sizes x).penalty
  closed_width (x ∷ y ∷ line) = (sizes x).width + (sizes x).whitespace + closed_width (y ∷ line)

  -- what these fragments take where the line goes on after them
  abbrev pub open_width : List X → ℕ
  open_width line = sum_by (λ x. (sizes x).width + (sizes x).whitespace) line

  -- each prefix of two or more fragments closes within the width
  abbrev pub Fits : ℕ → List X → Type 0
  Fits width line = (k : ℕ) → 2 ≤ k → k ≤ length line → closed_width (take k line) ≤ width

module _ {X : Type 0} (sizes : X → Sizes) (widths : List ℕ) where
  -- each line fits its width, where n is the number of the first
  abbrev pub AllFit : ℕ → List (List X) → Type 0
  AllFit n [] = ⊤
  AllFit n (line ∷ lines) = Fits sizes (line_width widths n) line × AllFit (n + 1) lines

  -- no line but the last has room for the fragment after it
  abbrev pub AllFull : ℕ → List (List X) → Type 0
  AllFull n [] = ⊤
  AllFull n (line ∷ []) = ⊤
  AllFull n (line ∷ next ∷ lines) =
      (line_width widths n < closed_width sizes (line ++ take 1 next))
      × AllFull (n + 1) (next ∷ lines)

  -- a division whose lines all fit
  pub record IsAdmissible (fragments : List X) (lines : List (List X)) : Type 0 where
    pub division : IsDivision fragments lines
    pub fit : AllFit 0 lines

  -- one in which no line has room for more, which is first fit
  pub record IsGreedy (fragments : List X) (lines : List (List X)) : Type 0 where
    pub admissible : IsAdmissible fragments lines
    pub full : AllFull 0 lines
