-- Where lines end that a built-in algorithm finds of pieces, seen by their words.
use Rattle.std.proofs.lemmas.Simd.{map-map}
use Rattle.textwrap_base.proofs.{Common.Sizes, Cost.Chosen.fragments_table-map}
use Rattle.textwrap_base.{proofs.Cost.Measures.total_width-same, specs.Algorithms.OverflowsBy}
use Rattle.textwrap_lines.proofs.Common.{priced_at, Algorithm, ByFirstFit, ByOptimalFit, [], ap}
use Rattle.textwrap_lines.proofs.Common.{length, length-map, List, map, refl, sym, ℕ, ◌+◌, ◌∷◌, ◌≡◌}
use Rattle.textwrap_more_calls.specs.Fragments.{line_ends_from}

module _ {X Y : Type 0} (f : X → Y) where
  pub ends_from-map : (at : ℕ) (lines : List (List X))
      → line_ends_from at (map (map f) lines) ≡ line_ends_from at lines
  ends_from-map at [] = refl
  ends_from-map at (line ∷ lines) =
      rw (length-map line f)
      (ap (λ es. (at + length line) ∷ es) (ends_from-map (at + length line) lines))

  -- the algorithm refuses both or none
  pub OverflowsBy-map : (algorithm : Algorithm) (sizes : Y → Sizes) (widths : List ℕ) (xs : List X)
      → OverflowsBy algorithm (λ x. sizes (f x)) widths xs
      ≡ OverflowsBy algorithm sizes widths (map f xs)
  OverflowsBy-map ByFirstFit sizes widths xs = refl
  OverflowsBy-map (ByOptimalFit penalties) sizes widths xs =
      simp (
        total_width-same (λ (x : X). sizes (f x)) sizes xs (map f xs) (sym (map-map sizes f xs)),
        length-map,
        fragments_table-map f (λ (y : Y). priced_at penalties (sizes y)) penalties widths xs,
      )
