-- Only one division is the chosen one, and what a call by optimal fit returns.
use Rattle.textwrap_text.proofs.Common.{[], drop, inl, inr, length-take-le, rules, ℕ, ◌+◌, ◌↔◌, ◌≡◌}
use Rattle.textwrap_text.proofs.Common.{All-nil, get_or, get_or-map, List, refl, Result, subst, ◌∷◌}
use Rattle.textwrap_text.proofs.Common.{append-nil, arith, IsErrAnd, length, reverse, take, zero}
use Rattle.textwrap_text.proofs.Common.{ap, Err, map, Ok, suc, sym, ◌<◌, ◌^◌, ◌∙◌, ◌≢◌, ◌≤◌}
use Rattle.textwrap_text.proofs.Lists.Parts.{same_parts}
use Rattle.std.proofs.lemmas.{List.reverse-reverse, Simd.map-map}
use Rattle.textwrap_base.{proofs.Cost.Chosen.division_joined, specs.Queue.CountsSearch}
use Rattle.textwrap_base.proofs.Common.{division_cost, line_costs, Minimum, Overflowed, total_width}
use Rattle.textwrap_base.proofs.Common.{AreEqualFromSecond, IsLeastCost, minimum_of, TableOverflows}
use Rattle.textwrap_base.proofs.Common.{AreNoLater, fragments_table, IsByTable, IsDivision, Problem}
use Rattle.textwrap_base.proofs.Cost.{Chosen.joined_after, Table.length-table, Table.table_followed}
use Rattle.textwrap_base.proofs.Cost.Chosen.{begin_starts, joined, line_costs-steady, starts_back}
use Rattle.textwrap_base.proofs.Cost.Chosen.{by_table-chosen, cost_after_starts, cost_at, whole}
use Rattle.textwrap_base.proofs.Cost.Chosen.{begin-least, begin_follow, joined_division, some_after}
use Rattle.textwrap_base.proofs.Cost.Table.{AreStarts, entry-table_first, FollowBack, starts_to}
use Rattle.textwrap_base.specs.{declared.errors.WrapError.TheVariants.Memory, Table.CountsSteps}
use Rattle.textwrap_base.specs.Cost.{IsChosen, IsTooWide, Overflows, starts_from}
use Rattle.textwrap_base.specs.OptimalFit.{IsOptimalFitResult, IsTheResult}
use Rattle.textwrap_base.specs.declared.errors.WrapError.{TheVariants.Overflow, WrapError}

-- ---- only one division is the chosen one, and only one follows the table

starts_same : (starts others : List ℕ) → AreNoLater starts others → AreNoLater others starts
    → starts ≡ others
starts_same [] [] h k = refl
starts_same [] (o ∷ others) h k = absurd k
starts_same (s ∷ starts) [] h k = absurd h
starts_same (s ∷ starts) (o ∷ others) (inl h) (inl k) = absurd (omega arith)
starts_same (s ∷ starts) (o ∷ others) (inl h) (inr (k, ks)) = absurd (omega (arith, h, k))
starts_same (s ∷ starts) (o ∷ others) (inr (h, hs)) (inl k) = absurd (omega (arith, h, k))
starts_same (s ∷ starts) (o ∷ others) (inr (h, hs)) (inr (k, ks)) = let rest =
    starts_same starts others hs ks in cc

-- the starts and the fragments give the lines
lines_same : {X : Type 0} (lines others : List (List X)) (at : ℕ)
    → starts_from at lines ≡ starts_from at others → joined lines ≡ joined others → lines ≡ others
lines_same [] [] at s j = refl
lines_same [] (o ∷ others) at s j = cc
lines_same (l ∷ lines) [] at s j = cc
lines_same (l ∷ []) (o ∷ []) at s j = ap (λ x. x ∷ []) (sym (append-nil l) ∙ j ∙ append-nil o)
lines_same (l ∷ []) (o ∷ p ∷ others) at s j = cc
lines_same (l ∷ m ∷ lines) (o ∷ []) at s j = cc
lines_same (l ∷ m ∷ lines) (o ∷ p ∷ others) at s j =
    let t = ap (λ (x : List ℕ). drop 1 x) s in
    let len : length l ≡ length o = omega (arith, ap (λ (x : List ℕ). get_or x 0 0) t) in
    let parts = same_parts l o (joined (m ∷ lines)) (joined (p ∷ others)) j len in
    let next = lines_same (m ∷ lines) (p ∷ others) (at + length l)
    (t ∙ ap (λ k. starts_from (at + k) (p ∷ others)) (sym len)) parts.1 in search (rules, arith)

-- so do the starts from the last line back
lines_back_same : {X : Type 0} (lines others : List (List X)) → starts_back lines ≡ starts_back others
    → joined lines ≡ joined others → lines ≡ others
lines_back_same lines others back same =
    lines_same lines others 0 (sym (reverse-reverse (starts_from 0 lines)) ∙ ap reverse back
    ∙ reverse-reverse (starts_from 0 others)) same

-- two divisions into the same starts are the same
divisions_same : {X : Type 0} (xs : List X) (lines others : List (List X)) → IsDivision xs lines
    → IsDivision xs others → (0 < length xs → starts_back lines ≡ starts_back others) → lines ≡ others
divisions_same [] lines others h k same = h ∙ sym k
divisions_same (x ∷ xs) lines others h k same = search (rules, arith, lines_back_same)

pub chosen_one : {X : Type 0} (problem : Problem X) (lines others : List (List X))
    → IsChosen problem lines → IsChosen problem others → lines ≡ others
chosen_one problem lines others h k = search (rules, arith, divisions_same, starts_same)

-- ---- only one division follows the table

follow_one : (starts others follow : List ℕ) (j : ℕ) → AreStarts starts j → AreStarts others j
    → FollowBack starts follow j → FollowBack others follow j → starts ≡ others
follow_one [] [] follow j h k f g = refl
follow_one [] (o ∷ others) follow j h (k, ks) f g = absurd (omega (arith, h, k))
follow_one (s ∷ starts) [] follow j (h, hs) k f g = absurd (omega (arith, h, k))
follow_one (s ∷ starts) (o ∷ others) follow j (h, hs) (k, ks) (f, fs) (g, gs) =
    let same : o ≡ s = sym g ∙ f in
    let rest = follow_one starts others follow s hs (subst (AreStarts others) same ks) fs
    (subst (FollowBack others follow) same gs) in search (rules, arith)

pub by_table_one : {X : Type 0} (problem : Problem X) (lines others : List (List X))
    → IsByTable problem lines → IsByTable problem others → lines ≡ others
by_table_one problem lines others h k =
    let xs = problem.fragments in
    divisions_same xs lines others h.division k.division (λ p.
    let (tiles, some) = whole xs lines p h.division in
    let (other_tiles, other_some) = whole xs others p k.division in
    follow_one _ _ _ (length xs) (begin_starts xs lines (length xs) (omega arith) tiles some)
    (begin_starts xs others (length xs) (omega arith) other_tiles other_some)
    (begin_follow xs lines (length xs) (omega arith) tiles _ h.starts)
    (begin_follow xs others (length xs) (omega arith) other_tiles _ k.starts))

-- ---- each entry of the table has the least cost of its prefix; the table overflows exactly
-- where a least cost does

module _ {X : Type 0} (problem : Problem X) where
  first-costs_nothing : cost_at problem 0 ≡ 0
  first-costs_nothing = search (rules, arith, entry-table_first)

  module _ (equal : AreEqualFromSecond problem.widths) where
    -- a division of the prefix costs what its entry says
    entry-reached : (j : ℕ) → j ≤ length problem.fragments
        → (lines : List (List X)) × IsDivision (take j problem.fragments) lines
        × (division_cost problem lines ≡ cost_at problem j)
    entry-reached zero l = ([] ∷ [], refl, sym first-costs_nothing)
    entry-reached (suc j) l =
        let xs = problem.fragments in
        let (starts, h, f) = starts_to (line_costs problem) (length xs)
        (line_costs-steady problem equal) (suc j) (suc j) (omega arith) l in
        let tiles = joined_after starts xs (suc j) [] l h ∙ append-nil (take (suc j) xs) in
        let some = some_after starts xs (suc j) [] l h (All-nil (λ (line : List X). line ≢ [])) in
        let cost = cost_after_starts problem starts (suc j) [] l h in
        grind (arith, table_followed, joined_division, line_costs-steady)

    entry-least : (j : ℕ) → j ≤ length problem.fragments → (others : List (List X))
        → IsDivision (take j problem.fragments) others
        → cost_at problem j ≤ division_cost problem others
    entry-least zero l others o = omega (arith, first-costs_nothing)
    entry-least (suc j) l others o = grind (arith, length-take-le, division_joined, begin-least)

    -- so has what is reported of it
    pub reported-least_cost : (minima : List Minimum)
        → minima ≡ map minimum_of (fragments_table problem) → (j : ℕ) → j ≤ length problem.fragments
        → IsLeastCost problem j (get_or (map (λ (m : Minimum). m.cost) minima) j 0)
    reported-least_cost minima is j l =
        let (lines, division, reached) = entry-reached j l in
        search (rules, arith, length-table, map-map, get_or-map, entry-least)

    pub table_overflow-is : TableOverflows problem ↔ Overflows problem
    table_overflow-is = (
      λ over. elim over [
        | inl wide ↦ inl wide
        | inr (j, l, past) ↦ inr (j, l, λ others o. omega (arith, past, entry-least j l others o))
      ],
      λ over. elim over [
        | inl wide ↦ inl wide
        | inr (j, l, passes) ↦
            let (lines, division, reached) = entry-reached j l in
            inr (j, l, omega (arith, passes lines division, reached))
      ],
    )

-- ---- what a call by optimal fit returns, from what the table's call returned

passed_on : (A B : Type 0) (e : WrapError) → Overflowed {A = A} (Err e) → Overflowed {A = B} (Err e)
passed_on A B (Memory memory) over = over
passed_on A B (Overflow overflow) over = over

module _ {X A : Type 0} (problem : Problem X) (lines : A → List (List X)) where
  pub optimal-returned : (value : A) → IsByTable problem (lines value) → ¬ TableOverflows problem
      → IsOptimalFitResult problem lines (Ok value)
  optimal-returned value by none = record {
    divided = record { by_table = by; chosen = λ equal. by_table-chosen _ _ _ _ _ equal by };
    overflow_only = λ equal over. absurd over;
    ok_only = λ equal over. none ((table_overflow-is problem equal).1 over);
    table_overflow_only = λ over. absurd over;
    table_ok_only = none;
    too_wide = λ wide. absurd (none (inl wide));
    no_overflow = λ narrow over. over;
  }

  -- the error of a call before it, passed on
  pub optimal-refused : (B : Type 0) (r : Result A WrapError) (e : WrapError)
      → IsErrAnd r (λ f. f ≡ e)
      → (Overflowed {A = B} (Err e) → TableOverflows problem)
      → (IsTooWide problem → Overflowed {A = B} (Err e))
      → (total_width (λ x. (problem.priced x).sizes) problem.fragments < 2 ^ 64
      → ¬ Overflowed {A = B} (Err e))
      → IsOptimalFitResult problem lines r
  optimal-refused B (Ok value) e is table wide narrow = absurd is
  optimal-refused B (Err f) e is table wide narrow = grind (arith, table_overflow-is, passed_on)

  -- two results of the same division
  pub results-same : (r : Result A WrapError) → IsOptimalFitResult problem lines r
      → IsTheResult problem lines r
  results-same (Ok value) is (Ok other) others = grind (arith, by_table_one)
  results-same (Ok value) is (Err e) others = λ over. is.table_ok_only (others.table_overflow_only over)
  results-same (Err e) is (Ok other) others = λ over. others.table_ok_only (is.table_overflow_only over)
  results-same (Err e) is (Err f) others = tt

-- ---- what a call counted, if it ends in an error after it

pub search-refused : {A B E F : Type 0} (n old new : ℕ) (s : Result B F) (r : Result A E)
    (P : E → Type 0) → IsErrAnd r P → CountsSearch n old new s → CountsSearch n old new r
search-refused n old new s (Ok value) P is h = absurd is
search-refused n old new s (Err e) P is h = search (rules, arith)

-- the error of a call that only overflows where the counted one does
pub steps-refused : {X A B : Type 0} (problem : Problem X) (old new : ℕ) (s : Result B WrapError)
    (r : Result A WrapError) (e : WrapError) → IsErrAnd r (λ f. f ≡ e)
    → (Overflowed {A = B} (Err e) → Overflowed s) → CountsSteps problem old new s
    → CountsSteps problem old new r
steps-refused problem old new s (Ok value) e is over h = absurd is
steps-refused {X} {A} {B} problem old new s (Err f) e is over h = search (rules, arith, passed_on)
