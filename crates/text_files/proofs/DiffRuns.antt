-- Runs of changed lines, in which no line is removed and added.
use Rattle.std.proofs.Common.{◌≡◌, ◌∙◌, ap, refl, sym, subst, ℕ, zero, suc, ◌+◌, ◌-◌, ◌<◌, ◌≤◌, arith}
use Rattle.std.proofs.Common.{◌⊎◌, inl, inr, ⊎_elim, List, [], ◌∷◌, ◌++◌, length, take, drop, map, get_or}
use Rattle.std.proofs.{Common.Bor, Common.length-take, lemmas.Bool.cases_lt}
use Rattle.std.proofs.lemmas.List.{get_or-append_right, get_or-drop, get_or-take, get_or_append_left}
use Rattle.std.proofs.lemmas.List.{drop-map, take_rest, length-drop, length-map, map-append, take-map}
use Rattle.std.specs.List.{slice_range}
use Rattle.text_files.proofs.{DiffHunks.sign_at-part, DiffLines.change-within}
use Rattle.text_files.specs.Differences.{AreLean, AreSameAt, AreSameOrAll, IsNearest, SignedText}
use Rattle.text_files.specs.Differences.{line_at, sign_at, signed_text, is_change}
use Rattle.text_files.specs.declared.differences.Sign.TheVariants.{Kept, Removed, Added}

-- ---- runs of changed lines

-- a part of such lines
pub lean-part : (lines : List SignedText) (first last : ℕ) → AreLean lines
    → AreLean (slice_range lines first last)
lean-part lines first last lean = λ removed added is_removed is_added same.
    let part : List SignedText = slice_range lines first last in
    let most = length-take (last - first) (drop first lines) in
    let removed_in = change-within part removed (ap is_change is_removed) in
    let added_in = change-within part added (ap is_change is_added) in
    let removed_below : removed < last - first = omega (arith, most, removed_in) in
    let added_below : added < last - first = omega (arith, most, added_in) in
    let found = lean (first + removed) (first + added)
    (sym (sign_at-part lines first last removed removed_below) ∙ is_removed)
    (sym (sign_at-part lines first last added added_below) ∙ is_added)
    (sym (line_at-part lines first last removed removed_below) ∙ same
    ∙ line_at-part lines first last added added_below) in
    let kept = found.0 in
    let back : ((first + removed ≤ kept) × (kept ≤ first + added))
    ⊎ ((first + added ≤ kept) × (kept ≤ first + removed)) = found.2 in
    let from : first ≤ kept = ⊎_elim (λ one. omega (arith, one.0)) (λ two. omega (arith, two.0)) back in
    let below : kept - first < last - first =
    ⊎_elim (λ one. omega (arith, one.1, added_below, from)) (λ two. omega (arith, two.1, removed_below, from)) back in
    let again : first + (kept - first) ≡ kept = omega (arith, from) in (
      kept - first,
      sign_at-part lines first last (kept - first) below ∙ ap (sign_at lines) again ∙ found.1,
      ⊎_elim (λ one. inl (omega (arith, one.0, from), omega (arith, one.1, from)))
          (λ two. inr (omega (arith, two.0, from), omega (arith, two.1, from))) back,
    )
  where
    line_at-part : (lines : List SignedText) (first last k : ℕ) → k < last - first
        → line_at (slice_range lines first last) k ≡ line_at lines (first + k)
    line_at-part lines first last k within =
        let texts : List (List ℕ) = map (λ s. s.line) lines in
        let cut : map (λ s. s.line) (slice_range lines first last) ≡ take (last - first) (drop first texts)
        = sym (take-map (λ s. s.line) (last - first) (drop first lines))
        ∙ ap (take (last - first)) (sym (drop-map (λ s. s.line) first lines)) in
        ap (λ ls. get_or ls k []) cut
        ∙ get_or-take (last - first) (drop first texts) k [] within
        ∙ get_or-drop first texts k []

-- lines that are kept, a change behind them, and where a line of it is removed or added
abbrev step : List (List ℕ) → List (List ℕ) → List (List ℕ) → List SignedText
step kept removed added =
    map (signed_text Kept) kept ++ (map (signed_text Removed) removed ++ map (signed_text Added) added)

-- it is at this place of a list
abbrev IsOf : List (List ℕ) → List ℕ → Type 0
IsOf lines line = (k : ℕ) × (k < length lines) × (line ≡ get_or lines k [])

behind : (first : List ℕ) (lines : List (List ℕ)) (line : List ℕ) → IsOf lines line
    → IsOf (first ∷ lines) line
behind first lines line (k, below, is) = (suc k, omega (arith, below), is)

removed-of : (kept removed added : List (List ℕ)) (k : ℕ) → sign_at (step kept removed added) k ≡ Removed
    → IsOf removed (line_at (step kept removed added) k)
removed-of (line ∷ kept) removed added zero is = absurd (cc is)
removed-of (line ∷ kept) removed added (suc k) is = removed-of kept removed added k is
removed-of [] (line ∷ removed) added zero is = (0, omega arith, refl)
removed-of [] (line ∷ removed) added (suc k) is = grind (arith, removed-of [] removed added k is, behind)
removed-of [] [] [] k is = absurd (cc is)
removed-of [] [] (line ∷ added) zero is = absurd (cc is)
removed-of [] [] (line ∷ added) (suc k) is = removed-of [] [] added k is

added-of : (kept removed added : List (List ℕ)) (k : ℕ) → sign_at (step kept removed added) k ≡ Added
    → IsOf added (line_at (step kept removed added) k)
added-of (line ∷ kept) removed added zero is = absurd (cc is)
added-of (line ∷ kept) removed added (suc k) is = added-of kept removed added k is
added-of [] (line ∷ removed) added zero is = absurd (cc is)
added-of [] (line ∷ removed) added (suc k) is = added-of [] removed added k is
added-of [] [] [] k is = absurd (cc is)
added-of [] [] (line ∷ added) zero is = (0, omega arith, refl)
added-of [] [] (line ∷ added) (suc k) is = behind line added _ (added-of [] [] added k is)

-- no line is in both
abbrev AreApartLines : List (List ℕ) → List (List ℕ) → Type 0
AreApartLines removed added =
    (k m : ℕ) → k < length removed → m < length added → get_or removed k [] ≡ get_or added m [] → ⊥

sign-before : (xs ys : List SignedText) (k : ℕ) → k < length xs → sign_at (xs ++ ys) k ≡ sign_at xs k
sign-before xs ys k below = grind (arith, map-append, get_or_append_left, length-map)

line-before : (xs ys : List SignedText) (k : ℕ) → k < length xs → line_at (xs ++ ys) k ≡ line_at xs k
line-before xs ys k below = grind (arith, map-append, get_or_append_left, length-map)

sign-behind : (xs ys : List SignedText) (k : ℕ) → length xs ≤ k
    → sign_at (xs ++ ys) k ≡ sign_at ys (k - length xs)
sign-behind xs ys k past = grind (arith, map-append, get_or-append_right, length-map)

line-behind : (xs ys : List SignedText) (k : ℕ) → length xs ≤ k
    → line_at (xs ++ ys) k ≡ line_at ys (k - length xs)
line-behind xs ys k past = grind (arith, map-append, get_or-append_right, length-map)

first-kept : (kept removed added : List (List ℕ)) → 0 < length kept
    → sign_at (step kept removed added) 0 ≡ Kept
first-kept [] removed added some = absurd (omega (arith, some))
first-kept (line ∷ kept) removed added some = refl

-- lines that are kept, and a change behind them that has no line twice
lean-step : (xs : List SignedText) (kept removed added : List (List ℕ)) → AreLean xs
    → (length xs ≡ 0) ⊎ (0 < length kept) → AreApartLines removed added
    → AreLean (xs ++ step kept removed added)
lean-step xs kept removed added lean some apart = λ one two is_removed is_added same.
    let ys : List SignedText = step kept removed added in
    let seam : 0 < length kept → sign_at (xs ++ ys) (length xs) ≡ Kept = λ more.
    sign-behind xs ys (length xs) (omega arith)
    ∙ ap (sign_at ys) (let none : length xs - length xs ≡ 0 = omega arith in none)
    ∙ first-kept kept removed added more in
    ⊎_elim
    (λ one_before.
    ⊎_elim
    (λ two_before.
    let found = lean one two (sym (sign-before xs ys one one_before) ∙ is_removed)
    (sym (sign-before xs ys two two_before) ∙ is_added)
    (sym (line-before xs ys one one_before) ∙ same ∙ line-before xs ys two two_before) in
    let below : found.0 < length xs =
    ⊎_elim (λ a. omega (arith, a.1, two_before)) (λ b. omega (arith, b.1, one_before)) found.2 in
    (found.0, sign-before xs ys found.0 below ∙ found.1, found.2))
    (λ two_behind.
    ⊎_elim (λ none. absurd (omega (arith, none, one_before)))
    (λ more. (length xs, seam more, inl (omega (arith, one_before), omega (arith, two_behind)))) some)
    (cases_lt two (length xs)))
    (λ one_behind.
    ⊎_elim
    (λ two_before.
    ⊎_elim (λ none. absurd (omega (arith, none, two_before)))
    (λ more. (length xs, seam more, inr (omega (arith, two_before), omega (arith, one_behind)))) some)
    (λ two_behind.
    let gone = removed-of kept removed added (one - length xs) (sym (sign-behind xs ys one one_behind) ∙ is_removed) in
    let new = added-of kept removed added (two - length xs) (sym (sign-behind xs ys two two_behind) ∙ is_added) in
    absurd (apart gone.0 new.0 gone.1 new.1
    (sym gone.2 ∙ sym (line-behind xs ys one one_behind) ∙ same ∙ line-behind xs ys two two_behind ∙ new.2)))
    (cases_lt two (length xs)))
    (cases_lt one (length xs))

-- ---- the nearest change has no line twice

nearest-apart : (old new : List (List ℕ)) (removed added : ℕ) → removed ≤ length old
    → added ≤ length new → IsNearest old new removed added
    → AreApartLines (take removed old) (take added new)
nearest-apart old new removed added old_in new_in is = grind (arith, length-take, get_or-take)

pub same-within : (old new : List (List ℕ)) (removed added : ℕ) → AreSameOrAll old removed new added
    → (removed ≤ length old) × (added ≤ length new)
same-within old new removed added is = grind arith

-- a line that both have behind lines that are left out
pub same-further : (old new : List (List ℕ)) (old_at new_at old_more new_more : ℕ)
    → AreSameAt (drop old_at old) old_more (drop new_at new) new_more
    → AreSameAt old (old_at + old_more) new (new_at + new_more)
same-further old new old_at new_at old_more new_more same = grind (arith, length-drop, get_or-drop)

pub same-before : (old new : List (List ℕ)) (old_at new_at old_more new_more : ℕ)
    → AreSameAt old (old_at + old_more) new (new_at + new_more)
    → AreSameAt (drop old_at old) old_more (drop new_at new) new_more
same-before old new old_at new_at old_more new_more same = grind (arith, length-drop, get_or-drop)

pub same-or-further : (old new : List (List ℕ)) (old_at new_at old_more new_more : ℕ)
    → old_at ≤ length old → new_at ≤ length new
    → AreSameOrAll (drop old_at old) old_more (drop new_at new) new_more
    → AreSameOrAll old (old_at + old_more) new (new_at + new_more)
same-or-further old new old_at new_at old_more new_more old_in new_in one =
    grind (arith, same-further, length-drop)

-- the lines that two texts begin with, and the nearest change behind them
pub lean-grown : (old after removed_too all : List SignedText) (kept : List (List ℕ))
    (olds news : List (Bor (List ℕ))) (removed added : ℕ)
    → after ≡ old ++ map (signed_text Kept) kept
    → removed_too ≡ after ++ map (signed_text Removed) (map (λ line. line.now) (take removed olds))
    → all ≡ removed_too ++ map (signed_text Added) (map (λ line. line.now) (take added news))
    → AreLean old → (length old ≡ 0) ⊎ (0 < length kept)
    → IsNearest (map (λ line. line.now) olds) (map (λ line. line.now) news) removed added
    → AreLean all
lean-grown old after removed_too all kept olds news removed added a b c lean some is =
    let gone : List (List ℕ) = map (λ line. line.now) (take removed olds) in
    let come : List (List ℕ) = map (λ line. line.now) (take added news) in
    let within = same-within (map (λ line. line.now) olds) (map (λ line. line.now) news) removed added is.same in
    let apart : AreApartLines gone come =
    rw (← take-map (λ line. line.now) removed olds, ← take-map (λ line. line.now) added news)
    (nearest-apart (map (λ line. line.now) olds) (map (λ line. line.now) news) removed added within.0
    within.1 is) in
    let grown : all ≡ old ++ step kept gone come =
    rw (c, b, a) (append_twice old (map (signed_text Kept) kept) (map (signed_text Removed) gone)
    (map (signed_text Added) come)) in
    subst AreLean (sym grown) (lean-step old kept gone come lean some apart)
  where
    append_twice : (xs ys zs ws : List SignedText) → ((xs ++ ys) ++ zs) ++ ws ≡ xs ++ (ys ++ (zs ++ ws))
    append_twice [] [] zs ws = refl
    append_twice [] (y ∷ ys) zs ws = ap (λ l. y ∷ l) (append_twice [] ys zs ws)
    append_twice (x ∷ xs) ys zs ws = ap (λ l. x ∷ l) (append_twice xs ys zs ws)

-- the lines from a place on, as a slice has them
rest-of : (lines : List (Bor (List ℕ))) (at : ℕ)
    → map (λ line. line.now) (take (length lines - at) (drop at lines))
    ≡ drop at (map (λ line. line.now) lines)
rest-of lines at = ap (map (λ line. line.now)) (take_rest lines at) ∙ sym (drop-map (λ line. line.now) at lines)

pub begins-same : (old new : List (Bor (List ℕ))) (old_at new_at : ℕ)
    → AreSameAt (map (λ line. line.now) old) old_at (map (λ line. line.now) new) new_at
    → AreSameAt (map (λ line. line.now) (take (length old - old_at) (drop old_at old))) 0
    (map (λ line. line.now) (take (length new - new_at) (drop new_at new))) 0
begins-same old new old_at new_at same =
    let olds : List (List ℕ) = map (λ line. line.now) old in
    let news : List (List ℕ) = map (λ line. line.now) new in
    rw (rest-of old old_at, rest-of new new_at)
    (same-before olds news old_at new_at 0 0
    (subst (λ n. AreSameAt olds n news (new_at + 0)) (let is : old_at ≡ old_at + 0 = omega arith in is)
    (subst (λ n. AreSameAt olds old_at news n) (let is : new_at ≡ new_at + 0 = omega arith in is) same)))

pub goes-on : (old new : List (Bor (List ℕ))) (old_at new_at old_more new_more : ℕ)
    → old_at ≤ length old → new_at ≤ length new
    → AreSameOrAll (map (λ line. line.now) (take (length old - old_at) (drop old_at old))) old_more
    (map (λ line. line.now) (take (length new - new_at) (drop new_at new))) new_more
    → AreSameOrAll (map (λ line. line.now) old) (old_at + old_more) (map (λ line. line.now) new)
    (new_at + new_more)
goes-on old new old_at new_at old_more new_more old_in new_in one =
    grind (arith, same-or-further, length-map, rest-of)

-- a line that both begin with is among those that are kept
pub kept-some : (old new : List (List ℕ)) (kept : ℕ) → AreSameAt old 0 new 0
    → (AreSameAt old kept new kept → ⊥) → 0 < kept
kept-some old new zero same other = absurd (other same)
kept-some old new (suc kept) same other = omega arith

pub moves : (old new : List (List ℕ)) (kept removed added : ℕ) → kept ≤ length old → kept ≤ length new
    → (AreSameAt old kept new kept → ⊥)
    → AreSameOrAll (drop kept old) removed (drop kept new) added
    → 0 < length old + length new → 0 < (kept + removed) + (kept + added)
moves old new kept removed added in_old in_new other one some = grind (arith, length-drop)
