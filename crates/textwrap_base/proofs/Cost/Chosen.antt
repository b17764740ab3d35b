-- The table gives the chosen division, if all lines but the first have one width.
use Rattle.textwrap_text.proofs.Common.{add-zero, arith, drop_at, get_or, length-map, List, ℕ, ◌≡◌}
use Rattle.textwrap_text.proofs.Common.{All, Bool, length-drop, map, suc, sym, take_at, ◌++◌, ◌≢◌}
use Rattle.textwrap_text.proofs.Common.{All-cons, append_assoc, slice_range, take-append-drop, ◌∷◌}
use Rattle.textwrap_text.proofs.Common.{All-tail, drop, drop-drop, length-take-le, refl, rules, ◌∙◌}
use Rattle.textwrap_text.proofs.Common.{All-head, drop_split, flat_map, length-append, nat_tests}
use Rattle.textwrap_text.proofs.Common.{[], eq-eqb, length, reverse, take, take_all, true, zero-add}
use Rattle.textwrap_text.proofs.Common.{ap, eqb, ◌+◌, ◌-◌, ◌<◌, ◌≤◌}
use Rattle.textwrap_text.proofs.Lists.Parts.{length-slice, some_from_nonempty, take_slice}
use Rattle.std.proofs.lemmas.Simd.{map-map}
use Rattle.textwrap_base.{proofs.Cost.LineCosts.line_costs-map, specs.OptimalFit.IsByOptimalFit}
use Rattle.textwrap_base.proofs.Common.{AreEqualFromSecond, IsByTable, line_cost, line_costs, table}
use Rattle.textwrap_base.proofs.Common.{fragments_table, IsDivision, last_break_penalty, line_width}
use Rattle.textwrap_base.proofs.Common.{closed_width, division_cost, FollowStarts, PricedSizes}
use Rattle.textwrap_base.proofs.Common.{entry_at, Penalties, priced_at, Problem, problem_by, Sizes}
use Rattle.textwrap_base.proofs.Cost.Table.{AreStarts, IsSteady, start-at, table-is_table}
use Rattle.textwrap_base.proofs.Cost.Table.{table_earliest, table_followed, table_starts}
use Rattle.textwrap_base.proofs.Cost.Table.{FollowBack, starts_cost, table_least}
use Rattle.textwrap_base.proofs.Division.Greedy.{closed-take, division_one}
use Rattle.textwrap_base.specs.Algorithms.{Algorithm, ByFirstFit, IsDividedBy, ByOptimalFit}
use Rattle.textwrap_base.specs.Cost.{IsChosen, lines_cost, starts_from}
use mathlib.Core.List.{reverse_aux}

-- ---- from lines to the starts of lines

-- where the lines start, the last line first
abbrev pub starts_back : {X : Type 0} → List (List X) → List ℕ
starts_back lines = reverse (starts_from 0 lines)

abbrev pub joined : {X : Type 0} → List (List X) → List X
joined lines = flat_map (λ line. line) lines

pub division_joined : {X : Type 0} (ys : List X) (lines : List (List X)) → 0 < length ys
    → IsDivision ys lines → (joined lines ≡ ys) × All (λ line. line ≢ []) lines
division_joined [] lines p h = absurd (omega arith)
division_joined (y ∷ ys) lines p h = h

pub joined_division : {X : Type 0} (ys : List X) (lines : List (List X)) → 0 < length ys
    → joined lines ≡ ys → All (λ line. line ≢ []) lines → IsDivision ys lines
joined_division [] lines p e h = absurd (omega arith)
joined_division (y ∷ ys) lines p e h = (e, h)

joined-more : {X : Type 0} (at : ℕ) (line : List X) (lines : List (List X))
    → at + length line + length (joined lines) ≡ at + length (line ++ joined lines)
joined-more at line lines = omega (arith, length-append line (joined lines))

-- the lines after `at` fragments, where `before` are the starts of those before them
pub starts_of_lines : {X : Type 0} (lines : List (List X)) (at : ℕ) (before : List ℕ)
    → All (λ line. line ≢ []) lines → AreStarts before at
    → AreStarts (reverse_aux (starts_from at lines) before) (at + length (joined lines))
starts_of_lines [] at before some h = rw add-zero h
starts_of_lines (line ∷ lines) at before some h =
    let first = some_from_nonempty line (All-head (λ line. line ≢ []) line lines some) in
    rw (← joined-more at line lines) (starts_of_lines lines (at + length line) (at ∷ before)
    (All-tail (λ line. line ≢ []) line lines some) (omega arith, h))

pub follow_of_lines : {X : Type 0} (starts : List ℕ) (lines : List (List X)) (at : ℕ)
    (before : List ℕ) → FollowStarts starts at lines → FollowBack before starts at
    → FollowBack (reverse_aux (starts_from at lines) before) starts (at + length (joined lines))
follow_of_lines starts [] at before f b = rw add-zero b
follow_of_lines starts (line ∷ lines) at before (f, fs) b = rw (← joined-more at line lines)
    (follow_of_lines starts lines (at + length line) (at ∷ before) fs (f, b))

pub cost_of_lines : {X : Type 0} (problem : Problem X) (lines : List (List X)) (rest : List X)
    (at : ℕ) (before : List ℕ) → drop at problem.fragments ≡ joined lines ++ rest
    → starts_cost (reverse_aux (starts_from at lines) before) (line_costs problem)
    (at + length (joined lines))
    ≡ starts_cost before (line_costs problem) at + lines_cost problem (length before) at lines
cost_of_lines problem [] rest at before is = simp add-zero
cost_of_lines problem (line ∷ lines) rest at before is =
    let shape = is ∙ append_assoc line (joined lines) rest in
    let next : drop (at + length line) problem.fragments ≡ joined lines ++ rest =
    sym (drop-drop (length line) at problem.fragments) ∙ ap (drop (length line)) shape
    ∙ drop_at line (joined lines ++ rest) (length line) refl in
    let len : length line ≡ at + length line - at = omega arith in
    let slice = ap (take (at + length line - at)) shape
    ∙ take_at line (joined lines ++ rest) (at + length line - at) len in
    let more = cost_of_lines problem lines rest (at + length line) (at ∷ before) next in
    let cost = ap (line_cost problem.priced problem.penalties
    (line_width problem.widths (length before))
    (eqb (at + length line) (length problem.fragments))) slice in
    let number = ap (λ m. lines_cost problem m (at + length line) lines)
    (let q : suc (length before) ≡ length before + 1 = omega arith in q) in
    rw (← joined-more at line lines) (more ∙ (omega (arith, cost, number)))

-- one line more in front
pub lines_more : {X : Type 0} (fragments : List X) (starts : List ℕ) (lines : List (List X))
    (start end : ℕ) → start < end → end ≤ length fragments → get_or starts end 0 ≡ start
    → joined lines ≡ drop end fragments → All (λ line. line ≢ []) lines
    → FollowStarts starts end lines
    → (joined (slice_range fragments start end ∷ lines) ≡ drop start fragments)
    × All (λ line. line ≢ []) (slice_range fragments start end ∷ lines)
    × FollowStarts starts start (slice_range fragments start end ∷ lines)
lines_more fragments starts lines start end below within at tiles some follow =
    let len = length-slice fragments start end within in grind (arith, drop_split, All-cons)

-- ---- divisions of a prefix, where all lines but the first have one width

pub line_costs-steady : {X : Type 0} (problem : Problem X) → AreEqualFromSecond problem.widths
    → IsSteady (line_costs problem)
line_costs-steady problem h i j l m p q = grind (arith, nat_tests)

module _ {X : Type 0} (xs : List X) (lines : List (List X)) (j : ℕ) (l : j ≤ length xs)
    (e : joined lines ≡ take j xs) where
  length_begun : 0 + length (joined lines) ≡ j
  length_begun = omega (arith, ap length e, length-take-le j xs l)

  pub begin_starts : All (λ line. line ≢ []) lines → AreStarts (starts_back lines) j
  begin_starts some = rw length_begun at (starts_of_lines lines 0 [] some refl)

  pub begin_follow : (starts : List ℕ) → FollowStarts starts 0 lines
      → FollowBack (starts_back lines) starts j
  begin_follow starts f = rw length_begun at (follow_of_lines starts lines 0 [] f tt)

pub begin_cost : {X : Type 0} (problem : Problem X) (lines : List (List X)) (j : ℕ)
    → j ≤ length problem.fragments → joined lines ≡ take j problem.fragments
    → starts_cost (starts_back lines) (line_costs problem) j ≡ division_cost problem lines
begin_cost problem lines j l e =
    let xs = problem.fragments in
    rw (length_begun xs lines j l e, zero-add) at (cost_of_lines problem lines (drop j xs) 0 []
    (sym (take-append-drop j xs) ∙ ap (λ l. l ++ drop j xs) (sym e)))

-- ---- the lines of given starts

abbrev pub lines_after : {X : Type 0} → List ℕ → List X → ℕ → List (List X) → List (List X)
lines_after [] xs j after = after
lines_after (i ∷ rest) xs j after = lines_after rest xs i (slice_range xs i j ∷ after)

pub joined_after : {X : Type 0} (starts : List ℕ) (xs : List X) (j : ℕ) (after : List (List X))
    → j ≤ length xs → AreStarts starts j
    → joined (lines_after starts xs j after) ≡ take j xs ++ joined after
joined_after [] xs j after l h = rw h refl
joined_after (i ∷ rest) xs j after l (h, hs) =
    joined_after rest xs i (slice_range xs i j ∷ after) (omega arith) hs
    ∙ rw (take_slice xs i j (omega arith)) (sym (append_assoc (take i xs) (slice_range xs i j) _))

pub some_after : {X : Type 0} (starts : List ℕ) (xs : List X) (j : ℕ) (after : List (List X))
    → j ≤ length xs → AreStarts starts j → All (λ line. line ≢ []) after
    → All (λ line. line ≢ []) (lines_after starts xs j after)
some_after [] xs j after l h some = some
some_after (i ∷ rest) xs j after l (h, hs) some =
    let len = length-slice xs i j l in
    let nonempty : slice_range xs i j ≢ [] = λ q. let z = ap length q in omega (arith, z) in
    some_after rest xs i (slice_range xs i j ∷ after) (omega arith) hs
    (All-cons (λ line. line ≢ []) (slice_range xs i j) after nonempty some)

pub cost_after_starts : {X : Type 0} (problem : Problem X) (starts : List ℕ) (j : ℕ)
    (after : List (List X)) → j ≤ length problem.fragments → AreStarts starts j
    → lines_cost problem 0 0 (lines_after starts problem.fragments j after)
    ≡ starts_cost starts (line_costs problem) j + lines_cost problem (length starts) j after
cost_after_starts problem [] j after l h = rw h (omega arith)
cost_after_starts problem (i ∷ rest) j after l (h, hs) =
    let again = cost_after_starts problem rest i (slice_range problem.fragments i j ∷ after)
    (omega arith) hs in search (rules, arith, length-slice)

-- ---- the chosen division

-- a division of all fragments, as one of the prefix of all
pub whole : {X : Type 0} (xs : List X) (lines : List (List X)) → 0 < length xs → IsDivision xs lines
    → (joined lines ≡ take (length xs) xs) × All (λ line. line ≢ []) lines
whole xs lines p h = grind (arith, division_joined, take_all)

module _ {X : Type 0} (problem : Problem X) where
  -- what the table says that the first fragments cost
  abbrev pub cost_at : ℕ → ℕ
  cost_at j = (entry_at (fragments_table problem) j).cost

  -- no division of a prefix costs less than its entry says
  pub begin-least : (others : List (List X)) (j : ℕ) → j ≤ length problem.fragments
      → AreEqualFromSecond problem.widths → joined others ≡ take j problem.fragments
      → All (λ line. line ≢ []) others → cost_at j ≤ division_cost problem others
  begin-least others j l equal tiles some =
      let cost = begin_cost problem others j l tiles in
      grind (arith, table_least, line_costs-steady, begin_starts)

  module _ (lines : List (List X)) (p : 0 < length problem.fragments)
      (equal : AreEqualFromSecond problem.widths) (by : IsByTable problem lines) where
    abbrev all : ℕ
    all = length problem.fragments

    begins : (others : List (List X)) → IsDivision problem.fragments others
        → AreStarts (starts_back others) all
    begins others o = search (rules, arith, whole, begin_starts)

    follows : FollowBack (starts_back lines) (table_starts (line_costs problem) all) all
    follows = search (rules, arith, begin_follow, whole)

    -- a division costs what its starts do
    costs_starts : (others : List (List X)) → IsDivision problem.fragments others
        → starts_cost (starts_back others) (line_costs problem) all ≡ division_cost problem others
    costs_starts others o = begin_cost problem others all (omega arith) (whole problem.fragments others p o).0

    -- the division by the table costs what its last entry says
    by_table-cost : division_cost problem lines ≡ cost_at all
    by_table-cost = grind (arith, costs_starts, table_followed, line_costs-steady, begins, follows)

    by_table-is_chosen : IsChosen problem lines
    by_table-is_chosen = record {
      division = by.division;
      least = λ others o.
          let (tiles, some) = whole problem.fragments others p o in
          rw by_table-cost (begin-least others all (omega arith) equal tiles some);
      earliest = λ others o same. table_earliest _ all (line_costs-steady problem equal) _ _ all
          (omega arith) (begins lines by.division) follows (begins others o) (costs_starts others o ∙ same ∙ by_table-cost);
    }

pub by_table-chosen : {X : Type 0} (priced : X → PricedSizes) (penalties : Penalties)
    (widths : List ℕ) (xs : List X) (lines : List (List X)) → AreEqualFromSecond widths
    → IsByTable (problem_by priced penalties widths xs) lines
    → IsChosen (problem_by priced penalties widths xs) lines
by_table-chosen priced penalties widths [] lines equal h = grind arith
by_table-chosen priced penalties widths (x ∷ xs) lines equal h =
    by_table-is_chosen (problem_by priced penalties widths (x ∷ xs)) lines (omega arith) equal h

-- ---- fragments without penalties, for which the first line has room, are one line at the least
-- cost

module _ {X : Type 0} (priced : X → PricedSizes) (penalties : Penalties) where
  line_cost-some : (width : ℕ) (is_last : Bool) (line : List X) → 0 < length line
      → penalties.nline_penalty ≤ line_cost priced penalties width is_last line
  line_cost-some width is_last [] some = absurd (omega arith)
  line_cost-some width is_last (x ∷ line) some = omega arith

  -- two fragments or more on the last line cost no more than any line does
  line_cost-one : (width : ℕ) (line : List X) → 1 < length line → last_break_penalty priced line ≡ 0
      → closed_width (λ x. (priced x).sizes) line ≤ width
      → line_cost priced penalties width true line ≡ penalties.nline_penalty
  line_cost-one width [] two none room = absurd (omega arith)
  line_cost-one width (x ∷ []) two none room = absurd (omega arith)
  line_cost-one width (x ∷ y ∷ line) two none room = grind (arith, nat_tests, none, room)

module _ {X : Type 0} (problem : Problem X)
    (none : last_break_penalty problem.priced problem.fragments ≡ 0)
    (room : closed_width (λ x. (problem.priced x).sizes) problem.fragments
    ≤ line_width problem.widths 0) where
  cost_from : (i number : ℕ) → i < length problem.fragments
      → problem.penalties.nline_penalty ≤ line_costs problem i (length problem.fragments) number
  cost_from i number within = grind (arith, line_cost-some, length-take-le, length-drop)

  -- the table's last line starts first: a later start would have to be cheaper
  last_start : get_or (table_starts (line_costs problem) (length problem.fragments))
      (length problem.fragments) 0 ≡ 0
  last_start =
      let entries = fragments_table problem in
      let table = table-is_table (line_costs problem) (length problem.fragments) in
      grind (arith, start-at, eq-eqb, take_all, line_cost-one, cost_from)

  by_table_one : IsByTable problem (problem.fragments ∷ [])
  by_table_one = search (division_one, zero-add, last_start)

last-none : {X : Type 0} (penalties : Penalties) (sizes : X → Sizes) (xs : List X)
    → All (λ x. (sizes x).penalty ≡ 0) xs
    → last_break_penalty (λ x. priced_at penalties (sizes x)) xs ≡ 0
last-none penalties sizes [] none = refl
last-none penalties sizes (x ∷ []) none = search (rules, arith, All-head)
last-none penalties sizes (x ∷ y ∷ xs) none =
    last-none penalties sizes (y ∷ xs) (All-tail (λ x. (sizes x).penalty ≡ 0) x (y ∷ xs) none)

pub IsDividedBy-one_line : {X : Type 0} (algorithm : Algorithm) (sizes : X → Sizes)
    (widths : List ℕ) (xs : List X) → All (λ x. (sizes x).penalty ≡ 0) xs
    → closed_width sizes xs ≤ line_width widths 0 → IsDividedBy algorithm sizes widths xs (xs ∷ [])
IsDividedBy-one_line ByFirstFit sizes widths xs none room = grind (arith, division_one, closed-take)
IsDividedBy-one_line {X = X} (ByOptimalFit penalties) sizes widths xs none room =
    search (by_table_one, last-none, by_table-chosen)

-- ---- the optimal division of fragments is one of what a function makes of them

module _ {X Y : Type 0} (f : X → Y) (priced : Y → PricedSizes) where
  pub fragments_table-map : (penalties : Penalties) (widths : List ℕ) (xs : List X)
      → fragments_table (problem_by (λ x. priced (f x)) penalties widths xs)
      ≡ fragments_table (problem_by priced penalties widths (map f xs))
  fragments_table-map penalties widths xs = ap (λ cost. table cost (length xs))
      (sym (line_costs-map (problem_by (λ x. priced (f x)) penalties widths xs))
      ∙ ap (λ ps. line_costs (problem_by (λ (s : PricedSizes). s) penalties widths ps))
      (sym (map-map priced f xs)) ∙ line_costs-map (problem_by priced penalties widths (map f xs)))
      ∙ ap (table (line_costs (problem_by priced penalties widths (map f xs))))
      (sym (length-map xs f))

  FollowStarts-map : (starts : List ℕ) (at : ℕ) (lines : List (List X))
      → FollowStarts starts at lines → FollowStarts starts at (map (map f) lines)
  FollowStarts-map starts at [] follow = tt
  FollowStarts-map starts at (line ∷ lines) (here, follow) = rw (length-map line f)
      (here, FollowStarts-map starts (at + length line) lines follow)

  pub IsByOptimalFit-map : (penalties : Penalties) (widths : List ℕ) (xs : List X)
      (lines : List (List X)) → IsDivision (map f xs) (map (map f) lines)
      → IsByOptimalFit (problem_by (λ x. priced (f x)) penalties widths xs) lines
      → IsByOptimalFit (problem_by priced penalties widths (map f xs)) (map (map f) lines)
  IsByOptimalFit-map penalties widths xs lines division optimal =
      grind (arith, fragments_table-map, FollowStarts-map, by_table-chosen)
