-- A division of fragments is one of what a function makes of them.
use Rattle.textwrap_text.proofs.Common.{All-map, flat_map, get_or, length-map, map-append, take-map}
use Rattle.textwrap_text.proofs.Common.{All, arith, length, List, map, refl, rules, take, ◌++◌, ◌+◌}
use Rattle.textwrap_text.proofs.Common.{[], ap, ℕ, ◌<◌, ◌∷◌, ◌≡◌, ◌≢◌}
use Rattle.textwrap_base.proofs.{Cost.Chosen.IsByOptimalFit-map, Division.Greedy.closed_width-map}
use Rattle.textwrap_base.proofs.Common.{AllFit, AllFull, closed_width, IsDivision, Sizes}
use Rattle.textwrap_base.specs.Algorithms.{Algorithm, ByFirstFit, IsDividedBy, ByOptimalFit}

module _ {X Y : Type 0} (f : X → Y) (sizes : Y → Sizes) where
  AllFit-map : (widths : List ℕ) (number : ℕ) (lines : List (List X))
      → AllFit (λ x. sizes (f x)) widths number lines
      → AllFit sizes widths number (map (map f) lines)
  AllFit-map widths number [] fit = tt
  AllFit-map widths number (line ∷ lines) fit =
      let rest = AllFit-map widths (number + 1) lines fit.1 in
      (grind (arith, take-map, closed_width-map, length-map), rest)

  full-map : (width : ℕ) (line next : List X)
      → width < closed_width (λ x. sizes (f x)) (line ++ take 1 next)
      → width < closed_width sizes (map f line ++ take 1 (map f next))
  full-map width line next full = rw (
    take-map f 1 next,
    ← map-append f line (take 1 next),
    closed_width-map f sizes (line ++ take 1 next),
  ) full

  AllFull-map : (widths : List ℕ) (number : ℕ) (lines : List (List X))
      → AllFull (λ x. sizes (f x)) widths number lines
      → AllFull sizes widths number (map (map f) lines)
  AllFull-map widths number [] full = tt
  AllFull-map widths number (line ∷ []) full = tt
  AllFull-map widths number (line ∷ next ∷ lines) full =
      search (full-map, AllFull-map widths (number + 1) (next ∷ lines) full.1)

  join-map : (lines : List (List X))
      → flat_map (λ line. line) (map (map f) lines) ≡ map f (flat_map (λ line. line) lines)
  join-map [] = refl
  join-map (line ∷ lines) = search (rules, arith, map-append, join-map lines)

  nonempty-map : (line : List X) → line ≢ [] → map f line ≢ []
  nonempty-map [] some is = some refl
  nonempty-map (x ∷ line) some is = cc

  all_nonempty-map : (lines : List (List X)) → All (λ line. line ≢ []) lines
      → All (λ line. line ≢ []) (map (map f) lines)
  all_nonempty-map lines all = All-map (λ line. line ≢ []) (map f) lines
      (λ k d l. nonempty-map (get_or lines k d) (all k d l))

  pub IsDivision-map : (xs : List X) (lines : List (List X)) → IsDivision xs lines
      → IsDivision (map f xs) (map (map f) lines)
  IsDivision-map [] lines division = ap (map (map f)) division
  IsDivision-map (x ∷ xs) lines division = search (rules, arith, join-map, all_nonempty-map)

  pub IsDividedBy-map : (algorithm : Algorithm) (widths : List ℕ) (xs : List X)
      (lines : List (List X)) → IsDividedBy algorithm (λ x. sizes (f x)) widths xs lines
      → IsDividedBy algorithm sizes widths (map f xs) (map (map f) lines)
  IsDividedBy-map ByFirstFit widths xs lines divided = search (IsDivision-map, AllFit-map, AllFull-map)
  IsDividedBy-map (ByOptimalFit penalties) widths xs lines divided =
      search (rules, arith, IsByOptimalFit-map, IsDivision-map)

-- the lines of a division are the fragments in order
pub IsDivision-whole : {X : Type 0} (xs : List X) (lines : List (List X)) → IsDivision xs lines
    → flat_map (λ line. line) lines ≡ xs
IsDivision-whole [] lines division = ap (flat_map (λ line. line)) division
IsDivision-whole (x ∷ xs) lines division = division.0

pub IsDividedBy-whole : {X : Type 0} (sizes : X → Sizes) (algorithm : Algorithm) (widths : List ℕ)
    (xs : List X) (lines : List (List X)) → IsDividedBy algorithm sizes widths xs lines
    → flat_map (λ line. line) lines ≡ xs
IsDividedBy-whole sizes ByFirstFit widths xs lines divided = search (rules, arith, IsDivision-whole)
IsDividedBy-whole sizes (ByOptimalFit penalties) widths xs lines divided =
    IsDivision-whole xs lines divided.by_table.division

-- there is a line at least
IsDivision-some : {X : Type 0} (xs : List X) (lines : List (List X)) → IsDivision xs lines
    → 0 < length lines
IsDivision-some [] lines division = omega (arith, ap length division)
IsDivision-some (x ∷ xs) [] division = cc
IsDivision-some (x ∷ xs) (line ∷ lines) division = omega arith

pub IsDividedBy-some : {X : Type 0} (sizes : X → Sizes) (algorithm : Algorithm) (widths : List ℕ)
    (xs : List X) (lines : List (List X)) → IsDividedBy algorithm sizes widths xs lines
    → 0 < length lines
IsDividedBy-some sizes ByFirstFit widths xs lines divided = search (rules, arith, IsDivision-some)
IsDividedBy-some sizes (ByOptimalFit penalties) widths xs lines divided =
    IsDivision-some xs lines divided.by_table.division
