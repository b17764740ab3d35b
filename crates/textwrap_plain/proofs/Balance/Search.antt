-- The search for the balanced width: between a width below which none is wide enough and one that is.
use Rattle.textwrap_base.proofs.Cost.Chosen.{whole}
use Rattle.textwrap_lines.proofs.Common.{Line, List, Settings, WordText, ap, arith, cases_lt, inl}
use Rattle.textwrap_lines.proofs.Common.{inr, length, refl, subst, suc, zero, ℕ, ◌+◌, ◌-◌, ◌<◌, ◌^◌}
use Rattle.textwrap_lines.proofs.Common.{◌≡◌, ◌≤◌}
use Rattle.textwrap_plain.proofs.Balance.Narrower.{lines-fewer, lines-same, room-wider}
use Rattle.textwrap_plain.specs.Balance.{AreFirstFitAt, HasRoom, IsBalanced, IsWideEnough}
use Rattle.textwrap_plain.specs.Balance.{TakesLines}
use Rattle.textwrap_text.proofs.Common.{lines, ◌/◌}

-- ---- how often it goes on: each time at most half of the widths are left

pub halved : (some others fillings : ℕ) → 0 < some → others ≤ some / 2 → fillings ≤ 65
    → some < 2 ^ (65 - fillings) → (fillings + 1 ≤ 65) × (others < 2 ^ (65 - (fillings + 1)))
halved some others fillings more half within below = by (65 - fillings) refl below
  where
    by : (left : ℕ) → left ≡ 65 - fillings → some < 2 ^ left
        → (fillings + 1 ≤ 65) × (others < 2 ^ (65 - (fillings + 1)))
    by zero is less = absurd (omega (arith, more, less))
    by (suc left) is less =
        let next : 65 - (fillings + 1) ≡ left = omega (arith, is) in
        (omega (arith, is), rw next (omega (arith, half, less)))

-- ---- the widths between which it is

module _ (settings : Settings) (words : List ℕ → List WordText) (points : List ℕ → List ℕ)
    (text : List ℕ) where
  -- the upper one is wide enough, and all that are wide enough are at or above the lower one, at
  -- which all pieces have room
  pub record IsBetween (low high : ℕ) : Type 0 where
    pub order : low ≤ high
    pub room : HasRoom settings words points text low
    pub enough : IsWideEnough settings words points text high
    pub least : (other : ℕ) → IsWideEnough settings words points text other → low ≤ other

  pub between-end : (low high : ℕ) → IsBetween low high → high ≤ low
      → IsBalanced settings words points text high
  between-end low high between end = record {
    is = inl between.enough;
    least = λ other enough. omega (arith, between.least other enough, end);
  }

-- ---- a filling at one of them, where the number of lines at the width of the settings is known

module _ (settings : Settings) (words : List ℕ → List WordText) (points : List ℕ → List ℕ)
    (text : List ℕ) (most : ℕ) (taken : TakesLines settings words points text settings.width most)
  where
    abbrev IsSo : ℕ → ℕ → Type 0
    IsSo = IsBetween settings words points text

    enough-at : (width count : ℕ) → width ≤ settings.width
        → HasRoom settings words points text width
        → TakesLines settings words points text width count → count ≤ most
        → IsWideEnough settings words points text width
    enough-at width count within room (lines, are, is) fewer =
        let (others, other_are, other_is) = taken in record {
          within = within;
          room = room;
          lines = (lines, others, are, other_are, omega (arith, is, other_is, fewer));
        }

    pub between-start : (low : ℕ) → low ≤ settings.width → HasRoom settings words points text low
        → ((other : ℕ) → HasRoom settings words points text other → low ≤ other)
        → IsSo low settings.width
    between-start low within room least = record {
      order = within;
      room = room;
      enough = enough-at settings.width most (omega arith)
          (room-wider settings words points text low settings.width within room) taken (omega arith);
      least = λ other enough. least other enough.room;
    }

    pub between-narrower : (low high middle count : ℕ) → IsSo low high → low ≤ middle
        → middle ≤ high → TakesLines settings words points text middle count → count ≤ most
        → IsSo low middle
    between-narrower low high middle count between from to takes fewer = record {
      order = from;
      room = between.room;
      enough = enough-at middle count (omega (arith, to, between.enough.within))
          (room-wider settings words points text low middle from between.room) takes fewer;
      least = between.least;
    }

    -- what is wide enough passes a width that is not, since no narrower one takes fewer lines
    past : (middle count other : ℕ) → TakesLines settings words points text middle count
        → most < count → IsWideEnough settings words points text other → middle < other
    past middle count other (lines, are, is) more enough =
        let (narrow, whole, narrow_are, whole_are, fewer) = enough.lines in
        let (others, other_are, other_is) = taken in
        let same = ap length (lines-same settings words points text settings.width whole others
        whole_are other_are) in
        elim (cases_lt middle other) [
          | inl later ↦ later
          | inr within ↦ absurd (omega (
            arith,
            lines-fewer settings words points text other middle narrow lines within enough.room
                narrow_are are,
          ))
        ]

    pub between-wider : (low high middle count : ℕ) → IsSo low high → low ≤ middle
        → middle < high → TakesLines settings words points text middle count → most < count
        → IsSo (middle + 1) high
    between-wider low high middle count between from to takes more = record {
      order = omega (arith, to);
      room = room-wider settings words points text low (middle + 1) (omega (arith, from)) between.room;
      enough = between.enough;
      least = λ other enough. omega (arith, past middle count other takes more enough);
    }

-- ---- what balanced lines are

module _ (settings : Settings) (words : List ℕ → List WordText) (points : List ℕ → List ℕ)
    (text : List ℕ) where
  -- where some piece has no room at the width of the settings, none narrower is wide enough
  pub balanced-none : (HasRoom settings words points text settings.width → ⊥)
      → IsBalanced settings words points text settings.width
  balanced-none none = record {
    is = inr (refl, none);
    least = λ other enough. absurd (none
        (room-wider settings words points text other settings.width enough.within enough.room));
  }

  -- they are as many as at the width of the settings
  pub balanced-many : (width : ℕ) (lines others : List Line)
      → IsBalanced settings words points text width
      → AreFirstFitAt settings words points text width lines
      → AreFirstFitAt settings words points text settings.width others
      → length lines ≡ length others
  balanced-many width lines others balanced are other_are = elim balanced.is [
    | inl enough ↦
        let (found, whole, found_are, whole_are, fewer) = enough.lines in
        omega (
          arith,
          ap length (lines-same settings words points text width lines found are found_are),
          ap length
              (lines-same settings words points text settings.width others whole other_are whole_are),
          lines-fewer settings words points text width settings.width lines others enough.within
              enough.room are other_are,
        )
    | inr (is, none) ↦
        ap length (lines-same settings words points text settings.width lines others
        (subst (λ w. AreFirstFitAt settings words points text w lines) is are) other_are)
  ]
