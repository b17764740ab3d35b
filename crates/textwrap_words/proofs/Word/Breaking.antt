-- The parts into which units are broken: the computed ones, and no others.
use Rattle.textwrap_text.proofs.Common.{sum_by-append, append_assoc, sum_by-cons, units_width, List}
use Rattle.textwrap_text.proofs.Common.{cases_Bool, characters, onto_first, unit_width, units_past}
use Rattle.textwrap_text.proofs.Common.{visible_of, and_parts, nat_tests, All-cons, All-head, arith}
use Rattle.textwrap_text.proofs.Common.{All-tail, Sequence, TextUnit, add-zero, cases_lt, flat_map}
use Rattle.textwrap_text.proofs.Common.{ltb-true, taken_at, zero-add, All-nil, Visible, columns, []}
use Rattle.textwrap_text.proofs.Common.{filter, length, nat_lt, false, subst, units, cond, drop, ap}
use Rattle.textwrap_text.proofs.Common.{refl, true, zero, ◌++◌, All, inl, inr, suc, sym, ◌+◌, ◌<◌}
use Rattle.textwrap_text.proofs.Common.{◌↔◌, ◌∙◌, ◌∷◌, ◌≡◌, ◌≢◌, ◌≤◌, ◌⊎◌, ℕ, ⊤}
use Rattle.textwrap_words.proofs.Common.{AllPartsFull, broken_units, IsKept, is_due, flat}
use Rattle.textwrap_words.specs.Breaking.{parts_left, AreBroken}
use Rattle.textwrap_text.proofs.Units.Texts.{units-part, units-tile}

-- ---- the computed parts, one by one

-- what a part with `width` columns takes of the units that follow it, and what it leaves
abbrev pub taken_units : ℕ → ℕ → List TextUnit → List TextUnit
taken_units limit width [] = []
taken_units limit width (u ∷ us) =
    cond (is_due limit width u) [] (u ∷ taken_units limit (width + unit_width u) us)

abbrev pub left_units : ℕ → ℕ → List TextUnit → List TextUnit
left_units limit width [] = []
left_units limit width (u ∷ us) =
    cond (is_due limit width u) (u ∷ us) (left_units limit (width + unit_width u) us)

-- no cut is due before the first unit of a part
pub is_due-first : (limit : ℕ) (u : TextUnit) → is_due limit 0 u ≡ false
is_due-first limit (Visible c) = refl
is_due-first limit (Sequence cs) = refl

pub broken_units-cons : (limit : ℕ) (u : TextUnit) (us : List TextUnit)
    → broken_units limit (u ∷ us) ≡ onto_first u (parts_left limit (unit_width u) us)
broken_units-cons limit u us = rw (is_due-first limit u, zero-add) refl

pub parts_after-is : (limit width : ℕ) (us : List TextUnit)
    → parts_left limit width us ≡ taken_units limit width us ∷ broken_units limit
    (left_units limit width us)
parts_after-is limit width [] = refl
parts_after-is limit width (u ∷ us) =
    grind (arith, cases_Bool, broken_units-cons, parts_after-is limit (width + unit_width u) us)

pub taken-left : (limit width : ℕ) (us : List TextUnit)
    → taken_units limit width us ++ left_units limit width us ≡ us
taken-left limit width [] = refl
taken-left limit width (u ∷ us) =
    grind (arith, cases_Bool, taken-left limit (width + unit_width u) us)

-- ---- a part that goes on from some columns

-- no cut is due within the part, which had `width` columns before these units
abbrev pub IsKeptAfter : ℕ → ℕ → List TextUnit → Type 0
IsKeptAfter limit width [] = ⊤
IsKeptAfter limit width (u ∷ us) = (is_due limit width u ≡ false)
    × IsKeptAfter limit (width + unit_width u) us

-- the same said of each visible character
abbrev EachKeeps : ℕ → ℕ → List TextUnit → Type 0
EachKeeps limit width part = (before after : List TextUnit) (c : ℕ)
    → part ≡ before ++ Visible c ∷ after → 0 < width + units_width before
    → width + units_width before + columns c ≤ limit

pub due-false : (limit width : ℕ) (c : ℕ) → (0 < width → width + columns c ≤ limit)
    → is_due limit width (Visible c) ≡ false
due-false limit width c h = grind (arith, cases_Bool, nat_tests)

due-room : (limit width : ℕ) (c : ℕ) → is_due limit width (Visible c) ≡ false → 0 < width
    → width + columns c ≤ limit
due-room limit width c h some = grind (arith, nat_tests)

first_kept : (limit width : ℕ) (u : TextUnit) (us : List TextUnit) → EachKeeps limit width (u ∷ us)
    → is_due limit width u ≡ false
first_kept limit width (Visible c) us h =
    due-false limit width c (λ some. omega (arith, h [] us c refl (omega arith)))
first_kept limit width (Sequence cs) us h = refl

kept-after : (limit width : ℕ) (part : List TextUnit) → EachKeeps limit width part
    → IsKeptAfter limit width part
kept-after limit width [] h = tt
kept-after limit width (u ∷ us) h = (
  first_kept limit width u us h,
  kept-after limit (width + unit_width u) us (λ before after c e some.
      let more = sum_by-cons unit_width u before in
      omega (arith, more, h (u ∷ before) after c (ap (λ vs. u ∷ vs) e) (omega (arith, more)))),
)

kept-at : (limit width : ℕ) (before after : List TextUnit) (c : ℕ)
    → IsKeptAfter limit width (before ++ Visible c ∷ after) → 0 < width + units_width before
    → width + units_width before + columns c ≤ limit
kept-at limit width [] after c k some = omega (arith, due-room limit width c k.0 (omega arith))
kept-at limit width (u ∷ before) after c k some =
    let more = sum_by-cons unit_width u before in
    let later = kept-at limit (width + unit_width u) before after c k.1 (omega (arith, more)) in
    omega (arith, more, later)

pub IsKept-after : (limit : ℕ) (part : List TextUnit) → IsKept limit part → IsKeptAfter limit 0 part
IsKept-after limit part h = grind (arith, kept-after)

pub IsKept-from : (limit : ℕ) (part : List TextUnit) → IsKeptAfter limit 0 part → IsKept limit part
IsKept-from limit part k = grind (arith, kept-at)

-- a part of `width` columns has no room for what begins the next
abbrev pub IsFullAfter : ℕ → ℕ → List (List TextUnit) → Type 0
IsFullAfter limit width [] = ⊤
IsFullAfter limit width (next ∷ parts) = (c : ℕ) × (after : List TextUnit)
    × (next ≡ Visible c ∷ after) × (0 < width) × (limit < width + columns c)

AllPartsFull-cons : (limit : ℕ) (part : List TextUnit) (parts : List (List TextUnit))
    → AllPartsFull limit (part ∷ parts)
    ↔ IsFullAfter limit (units_width part) parts × AllPartsFull limit parts
AllPartsFull-cons limit part [] = (λ h. (tt, tt), λ h. tt)
AllPartsFull-cons limit part (next ∷ parts) = (λ h. h, λ h. h)

pub due-true : (limit width c : ℕ) → 0 < width → limit < width + columns c
    → is_due limit width (Visible c) ≡ true
due-true limit width c some over = grind (arith, nat_tests)

-- ---- no parts but the computed ones have the properties

along : (limit width : ℕ) (first rest : List TextUnit) (more : List (List TextUnit))
    → IsKeptAfter limit width first → parts_left limit (width + units_width first) rest ≡ [] ∷ more
    → parts_left limit width (first ++ rest) ≡ first ∷ more
along limit width [] rest more k e = rw add-zero at e
along limit width (u ∷ first) rest more k e =
    let on : width + units_width (u ∷ first) ≡ width + unit_width u + units_width first =
    omega (arith, sum_by-cons unit_width u first) in
    rw k.0 (ap (onto_first u) (along limit (width + unit_width u) first rest more k.1 (rw on at e)))

whole : (limit width : ℕ) (first : List TextUnit) (parts : List (List TextUnit))
    → IsKeptAfter limit width first → IsFullAfter limit (width + units_width first) parts
    → All (IsKept limit) parts → AllPartsFull limit parts
    → parts_left limit width (first ++ flat parts) ≡ first ∷ parts
whole limit width first [] k f ks fs = along limit width first [] [] k refl
whole limit width first (next ∷ parts) k (c, after, e, some, over) ks fs =
    let kept = IsKept-after limit (Visible c ∷ after)
    (rw e at (All-head (IsKept limit) next parts ks)) in
    let (first_full, others) = (AllPartsFull-cons limit next parts).0 fs in
    let full = rw (sum_by-cons unit_width (Visible c) after) at (rw e at first_full) in
    let rest = whole limit (columns c) after parts (rw (zero-add (columns c)) at kept.1) full
    (All-tail (IsKept limit) next parts ks) others in
    along limit width first (next ++ flat parts) (next ∷ parts) k
    (rw (e, due-true limit (width + units_width first) c some over)
    (ap (λ ps. [] ∷ onto_first (Visible c) ps) rest))

pub AreBroken-unique : (limit : ℕ) (us : List TextUnit) (parts : List (List TextUnit))
    → AreBroken limit us parts → parts ≡ broken_units limit us
AreBroken-unique limit us [] h = ap (broken_units limit) h.tiles
AreBroken-unique limit us ([] ∷ parts) h =
    absurd (All-head (λ part. part ≢ []) [] parts h.nonempty refl)
AreBroken-unique limit us ((u ∷ first) ∷ parts) h =
    let kept = IsKept-after limit (u ∷ first) (All-head (IsKept limit) (u ∷ first) parts h.kept) in
    let full = (AllPartsFull-cons limit (u ∷ first) parts).0 h.full in
    sym (whole limit 0 (u ∷ first) parts kept (rw zero-add full.0)
    (All-tail (IsKept limit) (u ∷ first) parts h.kept) full.1) ∙ ap (broken_units limit) h.tiles

-- ---- the computed parts have the properties

-- what holds of the parts of some units, where the first goes on from `width` columns
record AreBrokenAfter (limit width : ℕ) (us first : List TextUnit)
    (parts : List (List TextUnit)) : Type 0 where
  tiles : first ++ flat parts ≡ us
  kept_first : IsKeptAfter limit width first
  full_first : IsFullAfter limit (width + units_width first) parts
  others : AreBroken limit (flat parts) parts

nothing-broken : (limit : ℕ) → AreBroken limit [] []
nothing-broken limit = grind (arith, All-nil)

after-on : (limit width : ℕ) (u : TextUnit) (us first : List TextUnit)
    (parts : List (List TextUnit)) → is_due limit width u ≡ false
    → AreBrokenAfter limit (width + unit_width u) us first parts
    → AreBrokenAfter limit width (u ∷ us) (u ∷ first) parts
after-on limit width u us first parts on h = record {
  tiles = ap (λ vs. u ∷ vs) h.tiles;
  kept_first = (on, h.kept_first);
  full_first =
      let e : width + unit_width u + units_width first ≡ width + units_width (u ∷ first) =
      omega (arith, sum_by-cons unit_width u first) in
      subst (λ n. IsFullAfter limit n parts) e h.full_first;
  others = h.others;
}

due-parts : (limit width : ℕ) (u : TextUnit) (first : List TextUnit) (parts : List (List TextUnit))
    → is_due limit width u ≡ true → IsFullAfter limit width ((u ∷ first) ∷ parts)
due-parts limit width (Visible c) first parts due = grind (arith, and_parts, ltb-true)
due-parts limit width (Sequence cs) first parts due = cc

-- what goes on after a unit makes, with this unit before it, the parts of units by themselves
from-first : (limit : ℕ) (u : TextUnit) (us first : List TextUnit) (parts : List (List TextUnit))
    → AreBrokenAfter limit (unit_width u) us first parts
    → AreBroken limit (u ∷ us) ((u ∷ first) ∷ parts)
from-first limit u us first parts h =
    let kept_part : IsKeptAfter limit 0 (u ∷ first) = search (is_due-first, zero-add) in
    let full_part = subst (λ n. IsFullAfter limit n parts)
    (sym (sum_by-cons unit_width u first)) h.full_first in
    record {
      tiles = ap (λ vs. u ∷ vs) h.tiles;
      nonempty = All-cons (λ part. part ≢ []) (u ∷ first) parts (λ e. cc) h.others.nonempty;
      kept = All-cons (IsKept limit) (u ∷ first) parts (IsKept-from limit (u ∷ first) kept_part)
          h.others.kept;
      full = (AllPartsFull-cons limit (u ∷ first) parts).1 (full_part, h.others.full);
    }

after-cut : (limit width : ℕ) (u : TextUnit) (us first : List TextUnit)
    (parts : List (List TextUnit)) → is_due limit width u ≡ true
    → AreBrokenAfter limit (unit_width u) us first parts
    → AreBrokenAfter limit width (u ∷ us) [] ((u ∷ first) ∷ parts)
after-cut limit width u us first parts due h = search (from-first, add-zero, due-parts)

first-next : (limit : ℕ) (u : TextUnit) (us : List TextUnit)
    → (u ∷ taken_units limit (unit_width u) us) ∷ broken_units limit
    (left_units limit (unit_width u) us) ≡ broken_units limit (u ∷ us)
first-next limit u us = grind (arith, broken_units-cons, parts_after-is)

after-is : (limit width : ℕ) (us : List TextUnit)
    → AreBrokenAfter limit width us (taken_units limit width us)
    (broken_units limit (left_units limit width us))
after-is limit width [] =
    record { tiles = refl; kept_first = tt; full_first = tt; others = nothing-broken limit }
after-is limit width (u ∷ us) = elim (cases_Bool (is_due limit width u)) [
  | inl due ↦ rw due (subst (AreBrokenAfter limit width (u ∷ us) []) (first-next limit u us)
      (after-cut limit width u us _ _ due (after-is limit (unit_width u) us)))
  | inr on ↦ rw on (after-on limit width u us _ _ on (after-is limit (width + unit_width u) us))
]

pub AreBroken-exists : (limit : ℕ) (us : List TextUnit) → AreBroken limit us (broken_units limit us)
AreBroken-exists limit [] = nothing-broken limit
AreBroken-exists limit (u ∷ us) = subst (AreBroken limit (u ∷ us)) (first-next limit u us)
    (from-first limit u us _ _ (after-is limit (unit_width u) us))

-- ---- a part of the units that is wider than the limit has one character that takes columns

pub units_past-skip : (n : ℕ) (cs : List ℕ) → units_past n cs ≡ units (drop n cs)
units_past-skip zero cs = refl
units_past-skip (suc n) [] = refl
units_past-skip (suc n) (c ∷ cs) = units_past-skip n cs

units-rest : (cs : List ℕ) (xs ys : List TextUnit) → units cs ≡ xs ++ ys
    → units (flat_map characters ys) ≡ ys
units-rest cs [] ys e = grind (arith, units-tile)
units-rest [] (x ∷ xs) ys e = cc
units-rest (c ∷ cs) (x ∷ xs) ys e =
    let tail : units_past (taken_at c cs) cs ≡ xs ++ ys = cc in
    units-rest (drop (taken_at c cs) cs) xs ys (sym (units_past-skip (taken_at c cs) cs) ∙ tail)

abbrev pub IsOwn : List TextUnit → Type 0
IsOwn part = units (flat_map characters part) ≡ part

pub parts-own : (cs : List ℕ) (parts : List (List TextUnit)) → flat_map (λ part. part) parts ≡ units cs
    → All IsOwn parts
parts-own cs [] e = All-nil IsOwn
parts-own cs (part ∷ parts) e =
    let rest = flat_map (λ p. p) parts in
    All-cons IsOwn part parts (units-part cs part rest (sym e))
    (parts-own (flat_map characters rest) parts (sym (units-rest cs part rest (sym e))))

abbrev pub column_units : List TextUnit → List ℕ
column_units us = filter (λ c. nat_lt 0 (columns c)) (flat_map visible_of us)

unseen : (c : ℕ) → columns c ≡ 0 → nat_lt 0 (columns c) ≡ false
unseen c none = grind (arith, nat_tests, none)

seen : (c : ℕ) → 0 < columns c → nat_lt 0 (columns c) ≡ true
seen c some = grind (arith, nat_tests, some)

-- units without columns show no character that takes any
no_columns : (us : List TextUnit) → units_width us ≡ 0 → length (column_units us) ≡ 0
no_columns [] none = refl
no_columns (Visible c ∷ us) none =
    let sum = sum_by-cons unit_width (Visible c) us in
    rw (unseen c (omega (arith, sum))) (no_columns us (omega (arith, sum)))
no_columns (Sequence cs ∷ us) none =
    no_columns us (omega (arith, sum_by-cons unit_width (Sequence cs) us))

width-push : (front : List TextUnit) (u : TextUnit)
    → units_width (front ++ u ∷ []) ≡ units_width front + unit_width u
width-push front u = grind (arith, sum_by-append, sum_by-cons)

module _ (limit : ℕ) where
  kept-push : (front : List TextUnit) (u : TextUnit) (us : List TextUnit)
      → IsKept limit (front ++ u ∷ us) → IsKept limit ((front ++ u ∷ []) ++ us)
  kept-push front u us kept = subst (IsKept limit) (sym (append_assoc front (u ∷ []) us)) kept

  -- after units with columns there are no more columns, or all keep to the limit
  later_step : (front : List TextUnit) (u : TextUnit) (us : List TextUnit)
      → IsKept limit (front ++ u ∷ us) → 0 < units_width front
      → (units_width us ≡ 0) ⊎ (units_width (front ++ u ∷ []) + units_width us ≤ limit)
      → (units_width (u ∷ us) ≡ 0) ⊎ (units_width front + units_width (u ∷ us) ≤ limit)
  later_step front u us kept some (inr within) =
      inr (omega (arith, width-push front u, sum_by-cons unit_width u us))
  later_step front (Sequence cs) us kept some (inl none) =
      inl (omega (arith, sum_by-cons unit_width (Sequence cs) us))
  later_step front (Visible c) us kept some (inl none) =
      let here = kept front us c refl some in
      inr (omega (arith, sum_by-cons unit_width (Visible c) us))

  later : (front us : List TextUnit) → IsKept limit (front ++ us) → 0 < units_width front
      → (units_width us ≡ 0) ⊎ (units_width front + units_width us ≤ limit)
  later front [] kept some = inl refl
  later front (u ∷ us) kept some =
      later_step front u us kept some (later (front ++ u ∷ []) us (kept-push front u us kept)
      (omega (arith, width-push front u)))

  -- so units that pass the limit show one character that takes columns
  single_after : (front : List TextUnit) (c : ℕ) (us : List TextUnit)
      → IsKept limit (front ++ Visible c ∷ us) → units_width front ≡ 0
      → limit < units_width (Visible c ∷ us) → 0 < columns c → length (column_units us) ≡ 0
  single_after front c us kept none wide some =
      let push = width-push front (Visible c) in
      elim (later (front ++ Visible c ∷ []) us (kept-push front (Visible c) us kept)
      (omega (arith, push))) [
        | inl nothing ↦ no_columns us nothing
        | inr within ↦ absurd (omega (arith, push, sum_by-cons unit_width (Visible c) us))
      ]

  pub single : (front us : List TextUnit) → IsKept limit (front ++ us) → units_width front ≡ 0
      → limit < units_width us → length (column_units us) ≡ 1
  single front [] kept none wide = absurd (omega arith)
  single front (Sequence cs ∷ us) kept none wide =
      single (front ++ Sequence cs ∷ []) us (kept-push front (Sequence cs) us kept)
      (omega (arith, width-push front (Sequence cs)))
      (omega (arith, sum_by-cons unit_width (Sequence cs) us))
  single front (Visible c ∷ us) kept none wide = elim (cases_lt 0 (columns c)) [
    | inl some ↦ rw (seen c some) (ap suc (single_after front c us kept none wide some))
    | inr nothing ↦
        grind (
          arith,
          unseen,
          kept-push,
          width-push,
          sum_by-cons,
          single (front ++ Visible c ∷ []) us (kept-push front (Visible c) us kept) (omega (arith, width-push front (Visible c))) (omega (arith, sum_by-cons unit_width (Visible c) us)),
        )
  ]
