-- Where a word may be split: at the points of a dictionary and behind hyphens of its own.
use Rattle.std.proofs.{Math.Bool.and-true, Math.Bool.or-false, lemmas.List.Folds.list_any_at}
use Rattle.std.proofs.lemmas.List.FromFn.{get_or-range_with_len, length-range_with_len}
use Rattle.std.proofs.lemmas.Map.Views.{any-filter_same}
use Rattle.textwrap_hyphens.specs.{Hyphenation.Hyphenation, Points.hyphenation_points}
use Rattle.textwrap_hyphens.specs.Outside.{hyphens_outside, is_hyphen_outside}
use Rattle.textwrap_hyphens.specs.Splitting.{is_split_point, split_points}
use Rattle.textwrap_text.proofs.Common.{Bool, and_parts, IsStrictlyIncreasing, IsUtf8, List, [], ap, ap₂, arith}
use Rattle.textwrap_text.proofs.Common.{cases_Bool, cases_eq, cond, eq-eqb, eqb-true, false}
use Rattle.textwrap_text.proofs.Common.{false≢true, filter, get_or, inl, inr, length, list_any}
use Rattle.textwrap_text.proofs.Common.{ne_eqb, or_cases, range_with_len, refl, suc, sym, true, zero}
use Rattle.textwrap_text.proofs.Common.{ℕ, ◌+◌, ◌++◌, ◌-◌, ◌&&◌, ◌<◌, ◌==◌, ◌||◌, ◌∙◌, ◌∷◌, ◌≡◌, ◌≤◌}
use Rattle.textwrap_text.proofs.Lists.Elements.{points-more}
use Rattle.textwrap_words.proofs.Common.{AreInnerCuts, AreNext, hyphen_points, is_hyphen_point}
use Rattle.textwrap_words.proofs.{Common.IsNextCut, Word.Cuts.next-increasing}
use Rattle.textwrap_words.proofs.Word.Splitting.{HoldsBetween, after-hyphen}
use Rattle.textwrap_words.specs.{Cuts.AreLaterCuts, WordSplitters.inner_offsets}

-- ---- cuts

abbrev pub among : List ℕ → ℕ → Bool
among points at = list_any (λ point. point == at) points

-- later cuts stand behind the place
among-none : (text points : List ℕ) (last at : ℕ) → AreLaterCuts last text points → at ≤ last
    → among points at ≡ false
among-none text [] last at are le = refl
among-none text (point ∷ points) last at ((after, inside, boundary), rest) le =
    grind (arith, ne_eqb, among-none text points point at rest (omega (arith, after, le)))

-- at each of them a character begins
among-between : (text points : List ℕ) (last : ℕ) → AreLaterCuts last text points
    → HoldsBetween (among points) text
among-between text [] last are at some inside is = absurd (false≢true is)
among-between text (point ∷ points) last ((after, within, boundary), rest) at some inside is =
    elim (or_cases (point == at) (among points at) is) [
      | inl here ↦ rw (eqb-true point at here) at boundary
      | inr later ↦ among-between text points point rest at some inside later
    ]

-- offsets that pass a test are cuts, if characters begin there
tests-cut : (text : List ℕ) (test : ℕ → Bool) → HoldsBetween test text → (n at last : ℕ) → last < at
    → at + n ≤ 1 + (length text - 1)
    → AreNext (IsNextCut text) (filter test (range_with_len at n)) last
tests-cut text test holds zero at last after within = tt
tests-cut text test holds (suc n) at last after within =
    let rest = λ (last : ℕ) (before : last < at + 1).
    tests-cut text test holds n (at + 1) last before (omega (arith, within)) in
    let inside : at < length text = omega (arith, after, within) in
    elim (cases_Bool (test at)) [
      | inl is ↦
          rw is ((after, inside, holds at (omega (arith, after)) inside is), rest at (omega arith))
      | inr none ↦ rw none (rest last (omega (arith, after)))
    ]

-- cuts are all the offsets that pass a test, if these are among them
tests-all : (text : List ℕ) (test : ℕ → Bool) (n last : ℕ) (points : List ℕ)
    → AreLaterCuts last text points → length text ≤ last + 1 + n
    → (0 < n → last + 1 + n ≤ length text)
    → ((at : ℕ) → last < at → at < length text → test at ≡ among points at)
    → filter test (range_with_len (last + 1) n) ≡ points
tests-all text test zero last [] are far near same = refl
tests-all text test zero last (point ∷ points) ((after, inside, boundary), rest) far near same =
    absurd (omega (arith, after, inside, far))
tests-all text test (suc n) last [] are far near same =
    grind (arith, tests-all text test n (last + 1) [] tt)
tests-all text test (suc n) last (point ∷ points) ((after, inside, boundary), rest) far near same =
    let room : last + 1 < length text = omega (arith, near (omega arith)) in
    let is : test (last + 1) ≡ among (point ∷ points) (last + 1) =
    same (last + 1) (omega arith) room in
    elim (cases_eq point (last + 1)) [
      | inl here ↦
          let passes : test (last + 1) ≡ true = grind (arith, eq-eqb) in
          rw passes (ap₂ (λ (p : ℕ) (ps : List ℕ). p ∷ ps) (sym here)
          (tests-all text test n (last + 1) points (rw (← here) rest) (omega (arith, far))
          (λ some. omega (arith, near (omega arith)))
          (λ at after_it within. same at (omega (arith, after_it)) within
          ∙ ap (λ b. b || among points at) (ne_eqb point at (omega (arith, here, after_it))))))
      | inr later ↦
          let beyond : last + 1 < point = omega (arith, after, later) in
          let misses : test (last + 1) ≡ false = is
          ∙ among-none text (point ∷ points) (last + 1) (last + 1) ((beyond, inside, boundary), rest)
          (omega arith) in
          rw misses (tests-all text test n (last + 1) (point ∷ points)
          ((beyond, inside, boundary), rest) (omega (arith, far))
          (λ some. omega (arith, near (omega arith)))
          (λ at after_it within. same at (omega (arith, after_it)) within))
    ]

-- ---- the points of a word

-- behind a hyphen a character begins
own-between : (text : List ℕ) → IsUtf8 text → HoldsBetween (is_hyphen_outside text) text
own-between text utf8 at some inside is =
    after-hyphen text at utf8 some inside (and_parts _ _ is).0

-- a hyphen's point is among them
pub own-among : (text : List ℕ) (at : ℕ) → 0 < at → at < length text
    → among (hyphens_outside text) at ≡ is_hyphen_outside text at
own-among text at some inside = grind (arith, any-filter_same, is_hyphen_outside, eqb-true, here, both)
  where
    here : among (inner_offsets text) at ≡ true
    here = list_any_at (λ point. point == at) (inner_offsets text) (at - 1) 0
        (omega (arith, length-range_with_len 1 (length text - 1)))
        (eq-eqb (get_or (inner_offsets text) (at - 1) 0) at
        (omega (arith, get_or-range_with_len 1 (length text - 1) (at - 1) 0 (omega arith))))

    both : (is_hyphen_outside text at && among (inner_offsets text) at) ≡ is_hyphen_outside text at
    both = rw here (and-true (is_hyphen_outside text at))

-- the splitter at hyphens has inner cuts, too
pub hyphens-inner : (text : List ℕ) → IsUtf8 text → AreInnerCuts text (hyphen_points text)
hyphens-inner text utf8 = grind (arith, tests-cut, is_hyphen_point, after-hyphen)

pub own-inner : (text : List ℕ) → IsUtf8 text → AreInnerCuts text (hyphens_outside text)
own-inner text utf8 = grind (arith, tests-cut, own-between)

pub inner-increasing : (text cuts : List ℕ) → AreInnerCuts text cuts → IsStrictlyIncreasing cuts
inner-increasing text [] are k within = absurd (omega (arith, within))
inner-increasing text (cut ∷ cuts) (here, rest) k within = grind (arith, next-increasing)

module _ (h : Hyphenation) (text : List ℕ) (inner : AreInnerCuts text (hyphenation_points h text)) where
  split-between : IsUtf8 text → HoldsBetween (is_split_point h text) text
  split-between utf8 at some inside is =
      elim (or_cases (among (hyphenation_points h text) at) (is_hyphen_outside text at) is) [
        | inl found ↦ among-between text (hyphenation_points h text) 0 inner at some inside found
        | inr own ↦ own-between text utf8 at some inside own
      ]

  pub split-inner : IsUtf8 text → AreInnerCuts text (split_points h text)
  split-inner utf8 = grind (arith, tests-cut, split-between)

  -- a word without hyphens of its own has the points of the dictionary
  pub split-plain : hyphens_outside text ≡ [] → split_points h text ≡ hyphenation_points h text
  split-plain none =
      tests-all text (is_split_point h text) (length text - 1) 0 (hyphenation_points h text) inner
      (omega arith) (λ some. omega arith) (λ at some inside.
      ap (λ b. among (hyphenation_points h text) at || b)
      (sym (own-among text at some inside) ∙ ap (λ points. among points at) none)
      ∙ or-false (among (hyphenation_points h text) at))

-- one more offset of a word is looked at
pub split-more : (h : Hyphenation) (text : List ℕ) (point : ℕ) (items more : List ℕ) (b : Bool)
    → 0 < point → point < length text
    → items ≡ filter (is_split_point h text) (range_with_len 1 (point - 1))
    → b ≡ (among (hyphenation_points h text) point || among (hyphens_outside text) point)
    → more ≡ cond b (items ++ point ∷ []) items
    → more ≡ filter (is_split_point h text) (range_with_len 1 (point + 1 - 1))
split-more h text point items more b some inside so_far is grown = grind (arith, points-more, own-among)
