-- What the wrong bodies of must-fail/ answer on worked rows, and that no contract allows it: each
-- theorem bears the name of its edit.
use Rattle.std.specs.Prelude.{All, alloc_error, slice_index, Some}
use Rattle.textwrap_text.proofs.Common.{[], ◌∷◌, ◌≡◌, ◌≤◌, ◌+◌, ◌-◌, ◌^◌, ℕ, zero, suc, List, map}
use Rattle.textwrap_text.proofs.Common.{◌∙◌, ap, All-cons, All-nil, inl, inr, ◌≢◌, arith, refl, rules, Result, Ok, Err, length, flat_map}
use Rattle.textwrap_base.proofs.Common.{default_penalties, IsDivision, Sizes, PricedSizes}
use Rattle.textwrap_base.proofs.Common.{problem_at, problem_by, Problem, fragments_table, minimum_of}
use Rattle.textwrap_base.proofs.Common.{IsGreedy, closed_width, line_width, AllFit, Fits, Minimum}
use Rattle.textwrap_base.proofs.Common.{Overflowed, fragment_costs, table_steps, priced_by, SuitQueue}
use Rattle.textwrap_base.proofs.{Division.Greedy.one-width, Rows.falling, Rows.itself, Rows.sized}
use Rattle.textwrap_base.proofs.Rows.{not_convex-falling}
use Rattle.textwrap_base.specs.{OptimalFit.IsOptimalFitResult, Queue.CountsSearch}
use Rattle.textwrap_base.specs.Cost.{IsTooWide, Overflows}
use Rattle.textwrap_base.specs.{Division.IsAdmissible, Table.table}
use Rattle.textwrap_base.specs.declared.errors.WrapError.{TheVariants.Memory, WrapError}

-- ---- words in lines of one width, at the default penalties

-- a word of so many columns, with the blank behind it
abbrev word : ℕ → Sizes
word width = sized width 1 0

-- one at the end of a text
abbrev last_word : ℕ → Sizes
last_word width = sized width 0 0

abbrev at_width : ℕ → List Sizes → Problem Sizes
at_width width = problem_at default_penalties itself (width ∷ [])

-- optimal fit may give these lines
abbrev AreLinesOf : {X : Type 0} → Problem X → List (List X) → Type 0
AreLinesOf {X} problem lines =
    IsOptimalFitResult problem (λ (found : List (List X)). found) (Ok lines)

-- "To be, or not to be: that is the question", as first fit divides it at 10 columns
abbrev greedy_lines : List (List Sizes)
greedy_lines = (word 2 ∷ word 3 ∷ word 2 ∷ []) ∷ (word 3 ∷ word 2 ∷ word 3 ∷ [])
    ∷ (word 4 ∷ word 2 ∷ []) ∷ (word 3 ∷ []) ∷ (last_word 8 ∷ []) ∷ []

-- and at the least cost
abbrev cheapest_lines : List (List Sizes)
cheapest_lines = (word 2 ∷ word 3 ∷ []) ∷ (word 2 ∷ word 3 ∷ word 2 ∷ [])
    ∷ (word 3 ∷ word 4 ∷ []) ∷ (word 2 ∷ word 3 ∷ []) ∷ (last_word 8 ∷ []) ∷ []

abbrev to_be : List Sizes
to_be = flat_map (λ line. line) greedy_lines

divides-to_be : IsDivision to_be cheapest_lines
divides-to_be = search rules

-- The lines of first fit cost 5059, and others 5037.
pub optimal_fit_is_greedy : AreLinesOf (at_width 10 to_be) greedy_lines → ⊥
optimal_fit_is_greedy fit =
    let chosen = fit.divided.chosen (one-width 10) in
    let dearer : 5059 ≤ 5037 = chosen.least cheapest_lines divides-to_be in
    absurd (omega (arith, dearer))

-- "textwrap: a small library for wrapping text." at 18 columns
abbrev a_small_library : List Sizes
a_small_library = word 9 ∷ word 1 ∷ word 5 ∷ word 7 ∷ word 3 ∷ word 8 ∷ last_word 5 ∷ []

-- its minima, with this start of the last line of five words: from "small" and from "library" on
-- all lines together cost 2050
abbrev minima_with : ℕ → List Minimum
minima_with start_of_fifth = map (λ (pair : ℕ × ℕ). record { start = pair.0; cost = pair.1 })
    ((0, 0) ∷ (0, 1081) ∷ (0, 1049) ∷ (0, 1001) ∷ (2, 2074) ∷ (start_of_fifth, 2050) ∷ (4, 3110)
    ∷ (5, 3050) ∷ [])

abbrev start_at : ℕ → List Minimum → ℕ
start_at place minima = slice_index (map (λ minimum. minimum.start) minima) place

minima-a_small_library : map minimum_of (fragments_table (at_width 18 a_small_library)) ≡ minima_with 2
unfolding table
minima-a_small_library = refl

pub ties_to_the_latest_start :
    minima_with 3 ≡ map minimum_of (fragments_table (at_width 18 a_small_library)) → ⊥
ties_to_the_latest_start same =
    let later : 3 ≡ 2 = ap (λ (minima : List Minimum). start_at 5 minima) (same ∙ minima-a_small_library)
    in absurd (omega (arith, later))

pub ties_to_the_latest_start_in_the_search :
    let costs = fragment_costs (at_width 18 a_small_library) in
    minima_with 3 ≡ map minimum_of (table costs.cost costs.ends) → ⊥
ties_to_the_latest_start_in_the_search = ties_to_the_latest_start

-- ---- overflow

-- two words of the greatest width, which fill a line each, with as wide a gap between them
abbrev widest : ℕ
widest = 2 ^ 64 - 1

abbrev front : Sizes
front = sized widest widest 0

abbrev back : Sizes
back = sized widest 0 0

abbrev full_lines : Problem Sizes
full_lines = problem_at (record {
  nline_penalty = 1000;
  overflow_penalty = widest;
  short_last_line_fraction = 4;
  short_last_line_penalty = 25;
  hyphen_penalty = 25;
}) itself (widest ∷ []) (front ∷ back ∷ [])

overflows-not : Overflows full_lines → ⊥
overflows-not (inl wide) = absurd (omega (arith, wide))
overflows-not (inr (zero, within, past)) =
    let dear : 2 ^ 128 ≤ 0 = past ([] ∷ []) refl in absurd (omega (arith, dear))
overflows-not (inr (suc zero, within, past)) =
    let dear : 2 ^ 128 ≤ 1000 = past ((front ∷ []) ∷ []) (search rules) in
    absurd (omega (arith, dear))
overflows-not (inr (suc (suc zero), within, past)) =
    let dear : 2 ^ 128 ≤ 2000 = past ((front ∷ []) ∷ (back ∷ []) ∷ []) (search rules) in
    absurd (omega (arith, dear))
overflows-not (inr (suc (suc (suc j)), within, past)) = absurd (omega (arith, within))

-- One line of both passes 128 bits, and two lines cost 2000.
pub overflow_as_soon_as_one_candidate_passes : (result : Result (List (List Sizes)) WrapError)
    → IsOptimalFitResult full_lines (λ found. found) result → Overflowed result → ⊥
overflow_as_soon_as_one_candidate_passes result fit overflowed =
    overflows-not (fit.overflow_only (one-width widest) overflowed)

-- The fragments are no queue case, and take 25 columns in all.
pub overflow_wherever_the_case_fails : (result : Result (List (List Sizes)) WrapError)
    → IsOptimalFitResult (at_width 10 falling) (λ found. found) result → Overflowed result → ⊥
overflow_wherever_the_case_fails result fit overflowed = fit.no_overflow (omega arith) overflowed

-- Memory may run out only where the sum fits 128 bits.
pub sum_tested_after_an_allocation : {X : Type 0} (problem : Problem X) → IsTooWide problem
    → IsOptimalFitResult problem (λ (found : List (List X)). found) (Err (Memory alloc_error)) → ⊥
sum_tested_after_an_allocation problem wide fit = fit.too_wide wide

-- ---- the search

-- The search, asked for fragments that are no queue case, gives lines of 1, 1, 1 and 2, which cost
-- 4050; lines of 1, 3 and 1 cost 3000.
pub search_without_its_case_test : AreLinesOf (at_width 10 falling)
    ((sized 10 0 0 ∷ []) ∷ (sized 5 0 0 ∷ []) ∷ (sized 5 0 5 ∷ [])
    ∷ (sized 0 0 0 ∷ sized 10 0 0 ∷ []) ∷ []) → ⊥
search_without_its_case_test fit =
    let chosen = fit.divided.chosen (one-width 10) in
    let dearer : 4050 ≤ 3000 = chosen.least ((sized 10 0 0 ∷ [])
    ∷ (sized 5 0 0 ∷ sized 5 0 5 ∷ sized 0 0 0 ∷ []) ∷ (sized 10 0 0 ∷ []) ∷ []) (search rules) in
    absurd (omega (arith, dearer))

pub search_without_its_case_test-suits : SuitQueue (fragment_costs (at_width 10 falling)) → ⊥
search_without_its_case_test-suits suits = not_convex-falling suits.convex

-- The table takes 500,500 steps for 1,000 fragments, and the search at most 30,000.
pub search_by_the_plain_table : {A E : Type 0} (result : Result A E)
    → CountsSearch 1000 0 (table_steps 1000) result → ⊥
search_by_the_plain_table result counts =
    let few : 500500 ≤ 30000 = counts.most in absurd (omega (arith, few))

-- The search asks for the cost of one fragment once, and half of that is 0.
pub search_reports_half_of_its_steps : {A E : Type 0} (minima : A)
    → CountsSearch {E = E} 1 0 0 (Ok minima) → ⊥
search_reports_half_of_its_steps minima counts =
    let some : 1 ≤ 0 = counts.from_none refl in absurd (omega (arith, some))

-- ---- break penalties of fragments

-- three cards of width 4, of which the second should not end a line
abbrev card : ℕ → PricedSizes
card keep = record { sizes = sized 4 1 0; break_penalty = keep }

abbrev cards : Problem PricedSizes
cards = problem_by (priced_by (λ priced. priced.sizes) (λ priced penalties. Some priced.break_penalty)
    default_penalties) default_penalties (9 ∷ []) (card 0 ∷ card 30 ∷ card 0 ∷ [])

-- With the second card at its end, the first line costs 1030, and both together 2030, not 2025.
pub own_break_penalty_ignored : AreLinesOf cards ((card 0 ∷ card 30 ∷ []) ∷ (card 0 ∷ []) ∷ []) → ⊥
own_break_penalty_ignored fit =
    let chosen = fit.divided.chosen (one-width 9) in
    let dearer : 2030 ≤ 2025 =
    chosen.least ((card 0 ∷ []) ∷ (card 30 ∷ card 0 ∷ []) ∷ []) (search rules) in
    absurd (omega (arith, dearer))

-- ---- first fit

module _ {X : Type 0} (sizes : X → Sizes) (widths : List ℕ) where
  abbrev alone : List X → List (List X)
  alone = map (λ x. x ∷ [])

  fit-alone : (number : ℕ) (xs : List X) → AllFit sizes widths number (alone xs)
  fit-alone number [] = tt
  fit-alone number (x ∷ xs) = ((λ k two within. absurd (omega arith)), fit-alone (number + 1) xs)

  divides-alone : (xs : List X)
      → (flat_map (λ line. line) (alone xs) ≡ xs) × All (λ line. line ≢ []) (alone xs)
  divides-alone [] = (refl, All-nil _)
  divides-alone (x ∷ xs) = let rest = divides-alone xs in grind (arith, All-cons)

  fit-two : (x y : X) → closed_width sizes (x ∷ y ∷ []) ≤ line_width widths 0
      → Fits sizes (line_width widths 0) (x ∷ y ∷ [])
  fit-two x y room zero two within = absurd (omega (arith, two))
  fit-two x y room (suc zero) two within = absurd (omega (arith, two))
  fit-two x y room (suc (suc zero)) two within = room
  fit-two x y room (suc (suc (suc k))) two within = absurd (omega (arith, within))

  -- Where the first two fragments share a line, they fit, so one line for each is not greedy.
  pub each_fragment_on_a_line_of_its_own : (x y : X) (xs : List X)
      → closed_width sizes (x ∷ y ∷ []) ≤ line_width widths 0
      → IsGreedy sizes widths (x ∷ y ∷ xs) (alone (x ∷ y ∷ xs)) → ⊥
  each_fragment_on_a_line_of_its_own x y xs room greedy = absurd (omega (arith, greedy.full.0, room))

  -- Nor are so many lines the fewest.
  pub each_fragment_on_a_line_of_its_own-fewest : (x y : X) (xs : List X)
      → closed_width sizes (x ∷ y ∷ []) ≤ line_width widths 0
      → ((others : List (List X)) → IsAdmissible sizes widths (x ∷ y ∷ xs) others
      → length (alone (x ∷ y ∷ xs)) ≤ length others) → ⊥
  each_fragment_on_a_line_of_its_own-fewest x y xs room fewest =
      let fewer = fewest ((x ∷ y ∷ []) ∷ alone xs) (record {
        division = (let rest = divides-alone xs in grind (arith, All-cons));
        fit = (fit-two x y room, fit-alone 1 xs);
      }) in absurd (omega (arith, fewer))

-- Two fragments of 5 columns take 11 on a line that ends with the penalty of the second.
abbrev penalized : Sizes
penalized = sized 5 0 1

pub first_fit_leaves_the_penalty_out : IsGreedy itself (10 ∷ []) (penalized ∷ penalized ∷ [])
    ((penalized ∷ penalized ∷ []) ∷ []) → ⊥
first_fit_leaves_the_penalty_out greedy =
    let close : 11 ≤ 10 = greedy.admissible.fit.0 2 (omega arith) (omega arith) in
    absurd (omega (arith, close))
