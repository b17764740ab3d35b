-- The nearest line that two lists have, found by where lines stand first.
use Rattle.std.proofs.Common.{◌≡◌, ◌∙◌, ap, refl, sym, subst, ℕ, ◌+◌, ◌<◌, ◌≤◌, arith, ◌⊎◌, ⊎_elim}
use Rattle.std.proofs.Common.{List, [], length, map, get_or, Bool, cond, is_some, bytes_eq, Bor}
use Rattle.std.proofs.Common.{IfSome, IsSomeAnd, Option, Some, None, true, false, lt-ltb}
use Rattle.std.proofs.lemmas.Slice.Eq.{bytes_eq-Decides}
use Rattle.textwrap_text.proofs.Common.{cases_Bool, cases_lt, false≢true, get_or-map, length-map}
use Rattle.text_files.{proofs.DiffHunks.not_below, specs.Differences.{AreSameAt, AreSameOrAll}}
use Rattle.text_files.specs.Differences.{HasFirstPlaces, IsLineAt, IsNearestBefore, place_of}

-- ---- where lines stand first

-- what holds of what is there
pub with_some : {A : Type 0} (found : Option A) (P Q : A → Type 0) (R : Type 0)
    → ((a : A) → P a → Q a → R) → IfSome found P → IsSomeAnd found Q → R
with_some None P Q R both holds is = absurd is
with_some (Some a) P Q R both holds is = both a holds is

module _ (lines others : List (List ℕ)) (place : List ℕ → Option ℕ) (n : ℕ)
    (are : HasFirstPlaces others n place) where
  pub first-there : (at k : ℕ) → k < n → AreSameAt lines at others k
      → IsSomeAnd (place_of place lines at) (λ found. found ≤ k)
  first-there at k below same = grind (arith, lt-ltb)

-- ---- noted one after another

pub none-there : (found : Option ℕ) (has : Bool) → has ≡ is_some found → has ≡ false → found ≡ None
none-there None has is lacks = refl
none-there (Some a) has is lacks = absurd (false≢true (sym lacks ∙ is))

-- the line of a slice, where it is found
pub line-found : (lines : List (Bor (List ℕ))) (at : ℕ) (found : Bor (List ℕ)) → at < length lines
    → found ≡ get_or lines at found
    → (at < length (map (λ line. line.now) lines))
    × (get_or (map (λ line. line.now) lines) at [] ≡ found.now)
line-found lines at found within here = grind (arith, length-map, get_or-map)

module _ (lines : List (List ℕ)) (at : ℕ) (place : List ℕ → Option ℕ) (are : HasFirstPlaces lines at place)
  where
    found-still : (line : List ℕ) → IfSome (place line) (λ k. (k < at + 1) × IsLineAt lines k line)
    found-still line = grind arith

    -- one that stands at an earlier place
    pub noted-again : (found : Option ℕ) → place (get_or lines at []) ≡ found → is_some found ≡ true
        → HasFirstPlaces lines (at + 1) place
    noted-again None same is = absurd (false≢true is)
    noted-again (Some earlier) same is = grind arith

    -- a new one
    pub noted-new : (line : List ℕ) (next : List ℕ → Option ℕ) → at < length lines
        → get_or lines at [] ≡ line → place line ≡ None
        → ((other : List ℕ) → next other ≡ cond (bytes_eq line other) (Some at) (place other))
        → HasFirstPlaces lines (at + 1) next
    noted-new line next within here none is = record {
      found = λ other. ⊎_elim
          (λ yes. let same : line ≡ other = (bytes_eq-Decides line other).0 yes in
          rw (is other, yes) (omega arith, (within, here ∙ same)))
          (λ differ. subst (λ o. IfSome o (λ k. (k < at + 1) × IsLineAt lines k other))
          (sym (is other ∙ ap (λ b. cond b (Some at) (place other)) differ)) (found-still other))
          (cases_Bool (bytes_eq line other));
      first = λ other k below there. ⊎_elim
          (λ yes. let same : line ≡ other = (bytes_eq-Decides line other).0 yes in
          let not_before : k < at → ⊥ = λ before.
          subst (λ o. IsSomeAnd o (λ found. found ≤ k)) none
          (are.first line k before (there.0, there.1 ∙ sym same)) in
          rw (is other, yes) (not_below k at not_before))
          (λ differ. let before : k < at = ⊎_elim (λ less. less)
          (λ past. let at_it : k ≡ at = omega (arith, past, below) in
          absurd (false≢true (sym differ ∙ (bytes_eq-Decides line other).1
          (sym here ∙ ap (λ n. get_or lines n []) (sym at_it) ∙ there.1)))) (cases_lt k at) in
          subst (λ o. IsSomeAnd o (λ found. found ≤ k))
          (sym (is other ∙ ap (λ b. cond b (Some at) (place other)) differ)) (are.first other k before there))
          (cases_Bool (bytes_eq line other));
    }

-- ---- the nearest line that both have

same-turned : (old new : List (List ℕ)) (old_at new_at : ℕ) → AreSameAt old old_at new new_at
    → AreSameAt new new_at old old_at
same-turned old new old_at new_at same = (same.1.0, (same.0, sym same.1.1))

module _ (old new : List (List ℕ)) (at : ℕ) (in_old in_new : List ℕ → Option ℕ)
    (olds : HasFirstPlaces old (at + 1) in_old) (news : HasFirstPlaces new (at + 1) in_new) where
  -- one text's line there is nearer, or what was the nearest stays so
  same-old : (removed added next_removed next_added : ℕ) → AreSameOrAll old removed new added
      → ((next_removed ≡ removed) × (next_added ≡ added))
      ⊎ ((next_removed ≡ at) × (place_of in_new old at ≡ Some next_added))
      → AreSameOrAll old next_removed new next_added
  same-old removed added next_removed next_added same one = grind arith

  same-new : (removed added next_removed next_added : ℕ) → AreSameOrAll old removed new added
      → ((next_added ≡ added) × (next_removed ≡ removed))
      ⊎ ((next_added ≡ at) × (place_of in_old new at ≡ Some next_removed))
      → AreSameOrAll old next_removed new next_added
  same-new removed added next_removed next_added same one = grind arith

  -- no pair with a line there is nearer
  no-nearer-old : (sum new_at : ℕ) → IfSome (place_of in_new old at) (λ place. sum ≤ at + place)
      → new_at < at + 1 → AreSameAt old at new new_at → sum ≤ at + new_at
  no-nearer-old sum new_at here below same =
      with_some (place_of in_new old at) (λ place. sum ≤ at + place) (λ place. place ≤ new_at)
      (sum ≤ at + new_at) (λ place near first. omega (arith, near, first)) here
      (first-there old new in_new (at + 1) news at new_at below same)

  no-nearer-new : (sum old_at : ℕ) → IfSome (place_of in_old new at) (λ place. sum ≤ at + place)
      → old_at < at + 1 → AreSameAt old old_at new at → sum ≤ old_at + at
  no-nearer-new sum old_at here below same =
      with_some (place_of in_old new at) (λ place. sum ≤ at + place) (λ place. place ≤ old_at)
      (sum ≤ old_at + at) (λ place near first. omega (arith, near, first)) here
      (first-there new old in_old (at + 1) olds at old_at below (same-turned old new old_at at same))

  pub nearest-next : (removed added mid_removed mid_added next_removed next_added : ℕ)
      → IsNearestBefore at old new removed added
      → ((mid_removed ≡ removed) × (mid_added ≡ added))
      ⊎ ((mid_removed ≡ at) × (place_of in_new old at ≡ Some mid_added))
      → mid_removed + mid_added ≤ removed + added
      → IfSome (place_of in_new old at) (λ place. mid_removed + mid_added ≤ at + place)
      → ((next_added ≡ mid_added) × (next_removed ≡ mid_removed))
      ⊎ ((next_added ≡ at) × (place_of in_old new at ≡ Some next_removed))
      → next_added + next_removed ≤ mid_added + mid_removed
      → IfSome (place_of in_old new at) (λ place. next_added + next_removed ≤ at + place)
      → IsNearestBefore (at + 1) old new next_removed next_added
  nearest-next removed added mid_removed mid_added next_removed next_added before one less here two
      less_too here_too = record {
        same = same-new mid_removed mid_added next_removed next_added
            (same-old removed added mid_removed mid_added before.same one) two;
        first = λ old_at new_at old_below new_below same.
            ⊎_elim
            (λ old_before.
            ⊎_elim
            (λ new_before. let near = before.first old_at new_at old_before new_before same in
            omega (arith, near, less, less_too))
            (λ new_here. let is : new_at ≡ at = omega (arith, new_here, new_below) in
            let near = no-nearer-new (next_added + next_removed) old_at here_too old_below
            (subst (AreSameAt old old_at new) is same) in
            omega (arith, near, is))
            (cases_lt new_at at))
            (λ old_here. let is : old_at ≡ at = omega (arith, old_here, old_below) in
            let near = no-nearer-old (mid_removed + mid_added) new_at here new_below
            (subst (λ k. AreSameAt old k new new_at) is same) in
            omega (arith, near, is, less_too))
            (cases_lt old_at at);
      }
