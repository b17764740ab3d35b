-- Where a text is cut.
use Rattle.std.specs.Prelude.{ℕ, ◌<◌, ◌≤◌, ◌==◌, List, [], ◌∷◌, drop, length, slice_range, ⊤}
use Rattle.std.specs.Prelude.{IsCharBoundary, if◌then◌else◌}

-- each offset may follow the one before it, and the first of them the last one
module _ (IsNext : ℕ → ℕ → Type 0) where
  abbrev pub AreNext : List ℕ → ℕ → Type 0
  AreNext [] last = ⊤
  AreNext (offset ∷ offsets) last = IsNext last offset × AreNext offsets offset

  -- that has one proof at most, so it may be a ghost field
  pub AreNext-prop : ((last offset : ℕ) → IsProp (IsNext last offset)) → (offsets : List ℕ)
      (last : ℕ) → IsProp (AreNext offsets last)
  AreNext-prop each [] last = Prim.hlevel
  AreNext-prop each (offset ∷ offsets) last =
      Prim.hlevel (each last offset, AreNext-prop each offsets offset)

-- a text may be cut at this point, which is not before the last one
abbrev pub IsNextPoint : List ℕ → ℕ → ℕ → Type 0
IsNextPoint text last point = (last ≤ point) × (point < length text) × IsCharBoundary text point

-- a text may be cut at this offset, after it was cut at the last one
abbrev pub IsNextCut : List ℕ → ℕ → ℕ → Type 0
IsNextCut text last cut = (last < cut) × (cut < length text) × IsCharBoundary text cut

-- a text may be cut at these offsets, one after another
abbrev pub AreCuts : List ℕ → List ℕ → Type 0
AreCuts text points = AreNext (IsNextPoint text) points 0

-- a text may be cut at these offsets after another one, into parts that are not empty
abbrev pub AreLaterCuts : ℕ → List ℕ → List ℕ → Type 0
AreLaterCuts start text cuts = AreNext (IsNextCut text) cuts start

-- a text may be cut at these offsets into parts that are not empty
abbrev pub AreInnerCuts : List ℕ → List ℕ → Type 0
AreInnerCuts text cuts = AreLaterCuts 0 text cuts

-- the parts of what follows an offset, between later cuts
abbrev pub parts_onward : ℕ → List ℕ → List ℕ → List (List ℕ)
parts_onward start [] text = drop start text ∷ []
parts_onward start (cut ∷ cuts) text = slice_range text start cut ∷ parts_onward cut cuts text

-- the same, where an empty rest has no parts
abbrev pub parts_after : ℕ → List ℕ → List ℕ → List (List ℕ)
parts_after start cuts text = if length text == start then [] else parts_onward start cuts text

-- the parts of a text between these cuts, which increase, above 0 and below its length; an empty
-- text has no parts
abbrev pub parts_between : List ℕ → List ℕ → List (List ℕ)
parts_between cuts text = parts_after 0 cuts text
