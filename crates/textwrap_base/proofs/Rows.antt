-- Worked rows on the widths of lines, on divisions, on what lines cost, and on tables of costs.
use Rattle.textwrap_text.proofs.Common.{[], All-head, arith, flat_map, List, map, refl, rules, take}
use Rattle.textwrap_text.proofs.Common.{ℕ, ◌∷◌, ◌≡◌}
use Rattle.textwrap_base.proofs.Common.{default_penalties, Entry, fragment_costs, fragments_table}
use Rattle.textwrap_base.proofs.Common.{closed_width, division_cost, IsDivision, line_width, Sizes}
use Rattle.textwrap_base.proofs.Common.{AreConvex, problem_at, problem_by}
use Rattle.textwrap_base.specs.Table.{table}

-- ---- the width of a line

line_width-each : map (line_width (10 ∷ 5 ∷ [])) (0 ∷ 1 ∷ 7 ∷ []) ≡ 10 ∷ 5 ∷ 5 ∷ []
line_width-each = refl

line_width-none : (number : ℕ) → line_width [] number ≡ 0
line_width-none number = refl

-- ---- what a line takes

-- a fragment by its sizes
abbrev pub sized : ℕ → ℕ → ℕ → Sizes
sized width whitespace penalty =
    record { width = width; whitespace = whitespace; penalty = penalty }

-- which are its own
abbrev pub itself : Sizes → Sizes
itself fragment = fragment

-- a longer line can take less
closed_width-each : map (closed_width itself) ([] ∷ (sized 3 2 1 ∷ [])
    ∷ (sized 3 2 1 ∷ sized 5 4 7 ∷ []) ∷ (sized 5 0 0 ∷ sized 5 0 5 ∷ [])
    ∷ (sized 5 0 0 ∷ sized 5 0 5 ∷ sized 0 0 0 ∷ []) ∷ []) ≡ 0 ∷ 4 ∷ 17 ∷ 15 ∷ 10 ∷ []
closed_width-each = refl

-- ---- divisions

IsDivision-none : IsDivision {X = Sizes} [] ([] ∷ [])
IsDivision-none = refl

IsDivision-not_no_line : IsDivision {X = Sizes} [] [] → ⊥
IsDivision-not_no_line division = cc

IsDivision-not_empty_line : IsDivision (sized 5 0 0 ∷ []) ([] ∷ (sized 5 0 0 ∷ []) ∷ []) → ⊥
IsDivision-not_empty_line division = search (rules, arith, All-head)

-- ---- what lines cost

abbrev costs_at : ℕ → List Sizes → List (List (List Sizes)) → List ℕ
costs_at width fragments = map (division_cost (problem_at default_penalties itself (width ∷ []) fragments))

-- two fragments on one line, or on two
abbrev both_ways : List (List (List Sizes))
both_ways = ((sized 3 1 0 ∷ sized 50 0 0 ∷ []) ∷ [])
    ∷ ((sized 3 1 0 ∷ []) ∷ (sized 50 0 0 ∷ []) ∷ []) ∷ []

cost-wide : costs_at 53 (sized 3 1 0 ∷ sized 50 0 0 ∷ []) both_ways ≡ 3500 ∷ 4500 ∷ []
cost-wide = refl

cost-narrower : costs_at 52 (sized 3 1 0 ∷ sized 50 0 0 ∷ []) both_ways ≡ 6000 ∷ 4401 ∷ []
cost-narrower = refl

-- ---- worked tables at the default penalties: what their entries start at and cost; and line
-- costs that are not convex

-- the start and the cost of each entry
abbrev starts_and_costs : List ℕ → List Sizes → List (ℕ × ℕ)
starts_and_costs widths fragments = map (λ (entry : Entry). (entry.start, entry.cost))
    (fragments_table (problem_at default_penalties itself widths fragments))

-- ---- fragments whose closed width falls with the fourth

abbrev pub falling : List Sizes
falling = sized 10 0 0 ∷ sized 5 0 0 ∷ sized 5 0 5 ∷ sized 0 0 0 ∷ sized 10 0 0 ∷ []

closed_width-falling : map (λ count. closed_width itself (take count falling))
    (1 ∷ 2 ∷ 3 ∷ 4 ∷ 5 ∷ []) ≡ 10 ∷ 15 ∷ 25 ∷ 20 ∷ 30 ∷ []
closed_width-falling = refl

table-falling : starts_and_costs (10 ∷ []) falling ≡ (0, 0) ∷ (0, 1000) ∷ (1, 2025) ∷ (2, 3050) ∷
    (1, 2000) ∷ (4, 3000) ∷ []
unfolding table
table-falling = refl

-- the second and third cost 13525, the third and fourth 1025, all three 1000, and the third 1025
pub not_convex-falling :
    ¬ AreConvex (fragment_costs (problem_at default_penalties itself (10 ∷ []) falling))
not_convex-falling convex =
    omega (arith, convex 1 2 3 4 (omega arith) (omega arith) (omega arith) (omega arith) (omega arith))

-- ---- line widths for which three lines of one fragment each cost less than the table's division

abbrev uneven : List Sizes
uneven = sized 5 0 0 ∷ sized 5 0 0 ∷ sized 20 0 0 ∷ []

table-uneven : starts_and_costs (10 ∷ 5 ∷ 100 ∷ []) uneven ≡ (0, 0) ∷ (0, 1025) ∷ (0, 1000) ∷
    (2, 39500) ∷ []
unfolding table
table-uneven = refl

cost-uneven_lines : division_cost (problem_at default_penalties itself (10 ∷ 5 ∷ 100 ∷ []) uneven)
    (map (λ fragment. fragment ∷ []) uneven) ≡ 3050
cost-uneven_lines = refl

-- ---- three cards (4, 1, 0) by their break penalties, in lines of 9

abbrev card_cost : List (List ℕ) → ℕ
card_cost lines = division_cost (problem_by (λ keep. record { sizes = sized 4 1 0; break_penalty = keep })
    default_penalties (9 ∷ []) (flat_map (λ line. line) lines)) lines

-- the last one kept little, and together
cost-kept : map card_cost (((0 ∷ 24 ∷ []) ∷ (0 ∷ []) ∷ []) ∷ ((0 ∷ []) ∷ (30 ∷ 0 ∷ []) ∷ []) ∷ [])
    ≡ 2024 ∷ 2025 ∷ []
cost-kept = refl
