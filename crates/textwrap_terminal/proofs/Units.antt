-- The units of a text on a terminal: there is one list of them, and it is computed.
use Rattle.textwrap_terminal.specs.TerminalUnits.{AreTerminalUnits, ends_sequence, first_len}
use Rattle.textwrap_terminal.specs.TerminalUnits.{IsInTerminalUnits, IsOpenUnit, IsWholeUnit}
use Rattle.textwrap_terminal.specs.TerminalUnits.{last_but_one, last_passes, opens_sequence}
use Rattle.textwrap_terminal.specs.TerminalUnits.{terminal_units, terminal_units_past}
use Rattle.textwrap_text.proofs.Common.{ap, ap₂, arith, Bool, cases_Bool, cases_lt, characters}
use Rattle.textwrap_text.proofs.Common.{cond, drop, drop_all, false, flat_map, inl, inr, length}
use Rattle.textwrap_text.proofs.Common.{length-append, length-take-le, List, refl, Sequence, subst}
use Rattle.textwrap_text.proofs.Common.{suc, sym, take, take-append-drop, take-append-le, take-take}
use Rattle.textwrap_text.proofs.Common.{take_all, take_at, TextUnit, true, Visible, zero, ℕ, []}
use Rattle.textwrap_text.proofs.Common.{⊎_elim, ◌++◌, ◌<◌, ◌↔◌, ◌∙◌, ◌∷◌, ◌≡◌, ◌≤◌, ◌⊎◌}
use Rattle.textwrap_text.proofs.Lists.Parts.{last-cons}

-- ---- the units tile the characters

units_past-tile : (n : ℕ) (cs : List ℕ) → flat_map characters (terminal_units_past n cs) ≡ drop n cs
units_past-tile n [] = sym (drop_all n [] (omega arith))
units_past-tile zero (c ∷ cs) =
    grind (
      arith,
      take-append-drop,
      units_past-tile (first_len cs (ends_sequence c)) cs,
      units_past-tile 0 cs,
    )
units_past-tile (suc n) (c ∷ cs) = units_past-tile n cs

pub units-tile : (cs : List ℕ) → flat_map characters (terminal_units cs) ≡ cs
units-tile cs = units_past-tile 0 cs

units_past-end : (n : ℕ) (cs : List ℕ) → length cs ≤ n → terminal_units_past n cs ≡ []
units_past-end n [] short = refl
units_past-end zero (c ∷ cs) short = absurd (omega arith)
units_past-end (suc n) (c ∷ cs) short = units_past-end n cs (omega arith)

-- ---- how far a sequence goes

pub last_but_one-cons : (b c d : ℕ) (cs : List ℕ)
    → last_but_one (b ∷ c ∷ d ∷ cs) ≡ last_but_one (c ∷ d ∷ cs)
last_but_one-cons b c d cs = grind arith

pub last_passes-cons : (test : ℕ → ℕ → Bool) (b c : ℕ) → test b c ≡ false
    → (cs : List ℕ) → last_passes test b (c ∷ cs) ≡ last_passes test c cs
last_passes-cons test b c fails [] = fails
last_passes-cons test b c fails (d ∷ cs) =
    ap₂ test (last_but_one-cons b c d cs) (last-cons b c (d ∷ cs))

first-none : (cs : List ℕ) (passes : List ℕ → Bool) → passes [] ≡ true → first_len cs passes ≡ 0
first-none [] passes here = refl
first-none (c ∷ cs) passes here = rw here refl

pub first-same : (cs : List ℕ) (p q : List ℕ → Bool) → ((l : List ℕ) → p l ≡ q l)
    → first_len cs p ≡ first_len cs q
first-same [] p q same = refl
first-same (c ∷ cs) p q same = rw (same []) (ap (λ n. cond (q []) 0 (suc n))
    (first-same cs (λ l. p (c ∷ l)) (λ l. q (c ∷ l)) (λ l. same (c ∷ l))))

-- a part goes on behind a character that does not end it
pub part-len : (test : ℕ → ℕ → Bool) (b c : ℕ) (cs : List ℕ)
    → first_len cs (λ l. last_passes test b (c ∷ l))
    ≡ cond (test b c) 0 (first_len cs (last_passes test c))
part-len test b c cs = elim (cases_Bool (test b c)) [
  | inl ended ↦ rw ended (first-none cs (λ l. last_passes test b (c ∷ l)) ended)
  | inr on ↦ rw on (first-same cs (λ l. last_passes test b (c ∷ l)) (last_passes test c)
      (last_passes-cons test b c on))
]

-- n of the characters are the fewest that pass, or all where no prefix passes
record StopsAt (passes : List ℕ → Bool) (cs : List ℕ) (n : ℕ) : Type 0 where
  within : n ≤ length cs
  before : (k : ℕ) → k < n → passes (take k cs) ≡ false
  stop : (passes (take n cs) ≡ true) ⊎ ((n ≡ length cs) × (passes (take n cs) ≡ false))

StopsAt-cons : (passes : List ℕ → Bool) (c : ℕ) (cs : List ℕ) (n : ℕ) → passes [] ≡ false
    → StopsAt (λ front. passes (c ∷ front)) cs n → StopsAt passes (c ∷ cs) (suc n)
StopsAt-cons passes c cs n none stops = grind arith
  where
    before : (k : ℕ) → k < suc n → passes (take k (c ∷ cs)) ≡ false
    before zero below = none
    before (suc k) below = stops.before k (omega arith)

first-stops : (cs : List ℕ) (passes : List ℕ → Bool) → StopsAt passes cs (first_len cs passes)
first-stops [] passes = grind (arith, cases_Bool (passes []))
first-stops (c ∷ cs) passes = elim (cases_Bool (passes [])) [
  | inl here ↦ rw here (grind arith)
  | inr on ↦ rw on (StopsAt-cons passes c cs (first_len cs (λ front. passes (c ∷ front))) on
      (first-stops cs (λ front. passes (c ∷ front))))
]

-- ---- the units of a text are units

pub AreTerminalUnits-cons : (u : TextUnit) (us : List TextUnit) → IsWholeUnit u
    → AreTerminalUnits us → AreTerminalUnits (u ∷ us)
AreTerminalUnits-cons u [] whole rest = inl whole
AreTerminalUnits-cons u (v ∷ us) whole rest = (whole, rest)

sequence-units : (c : ℕ) (cs : List ℕ) (n : ℕ) → opens_sequence c ≡ true
    → StopsAt (ends_sequence c) cs n → AreTerminalUnits (terminal_units_past n cs)
    → AreTerminalUnits (Sequence (c ∷ take n cs) ∷ terminal_units_past n cs)
sequence-units c cs n opens stops rest =
    let len : length (take n cs) ≡ n = length-take-le n cs stops.within in
    let before : (k : ℕ) → k < n → ends_sequence c (take k (take n cs)) ≡ false =
    grind (arith, take-take) in
    ⊎_elim
    (λ (passed : ends_sequence c (take n cs) ≡ true).
    AreTerminalUnits-cons (Sequence (c ∷ take n cs)) (terminal_units_past n cs)
    (c, take n cs, refl, opens, passed, λ k below. before k (omega arith)) rest)
    (grind (arith, take_all, units_past-end)) stops.stop

are-at : (c : ℕ) (cs : List ℕ) (b : Bool) → opens_sequence c ≡ b
    → ((n : ℕ) → AreTerminalUnits (terminal_units_past n cs))
    → AreTerminalUnits (cond b (Sequence (c ∷ take (first_len cs (ends_sequence c)) cs)) (Visible c)
    ∷ terminal_units_past (cond b (first_len cs (ends_sequence c)) 0) cs)
are-at c cs true is past =
    let len = first_len cs (ends_sequence c) in
    sequence-units c cs len is (first-stops cs (ends_sequence c)) (past len)
are-at c cs false is past = AreTerminalUnits-cons (Visible c) (terminal_units cs) is (past 0)

are-past : (cs : List ℕ) (n : ℕ) → AreTerminalUnits (terminal_units_past n cs)
are-past [] n = tt
are-past (c ∷ cs) zero = are-at c cs (opens_sequence c) refl (are-past cs)
are-past (c ∷ cs) (suc n) = are-past cs n

pub are_units : (cs : List ℕ) → AreTerminalUnits (terminal_units cs)
are_units cs = are-past cs 0

-- ---- and no other list is

-- how a list of units goes on after the sequence that it begins with
record Begins (cs : List ℕ) (us : List TextUnit) : Type 0 where
  opening : ℕ
  body : List ℕ
  shape : cs ≡ opening ∷ body
  opens : opens_sequence opening ≡ true
  before : (k : ℕ) → k < length body → ends_sequence opening (take k body) ≡ false
  stop : (ends_sequence opening body ≡ true) ⊎ (flat_map characters us ≡ [])
  rest : AreTerminalUnits us

Begins-from : (cs : List ℕ) (us : List TextUnit) → AreTerminalUnits (Sequence cs ∷ us)
    → Begins cs us
Begins-from cs [] (inl whole) = grind arith
Begins-from cs [] (inr open_last) = grind arith
Begins-from cs (v ∷ us) (whole, rest) = grind arith

-- the first unit is whole, or the last and open
pub AreTerminalUnits-head : (u : TextUnit) (us : List TextUnit) → AreTerminalUnits (u ∷ us)
    → (IsWholeUnit u ⊎ IsOpenUnit u) × AreTerminalUnits us
AreTerminalUnits-head u [] are = (are, tt)
AreTerminalUnits-head u (v ∷ us) (whole, rest) = (inl whole, rest)

AreTerminalUnits-visible : (c : ℕ) (us : List TextUnit) → AreTerminalUnits (Visible c ∷ us)
    → (opens_sequence c ≡ false) × AreTerminalUnits us
AreTerminalUnits-visible c [] (inl whole) = (whole, tt)
AreTerminalUnits-visible c [] (inr open_last) = absurd open_last
AreTerminalUnits-visible c (v ∷ us) (whole, rest) = (whole, rest)

-- what passes, or is all, but has no beginning that passes, is where it stops
StopsAt-whole : (passes : List ℕ → Bool) (body rest : List ℕ) (n : ℕ)
    → StopsAt passes (body ++ rest) n → ((k : ℕ) → k < length body → passes (take k body) ≡ false)
    → (passes body ≡ true) ⊎ (rest ≡ []) → n ≡ length body
StopsAt-whole passes body rest n stops before stop =
    let first : take (length body) (body ++ rest) ≡ body = take_at body rest (length body) refl in
    grind (arith, cases_lt, take-append-le, length-append)

units_past-skip : (xs ys : List ℕ) → terminal_units_past (length xs) (xs ++ ys) ≡ terminal_units ys
units_past-skip [] ys = refl
units_past-skip (x ∷ xs) ys = units_past-skip xs ys

pub units-of : (us : List TextUnit) → AreTerminalUnits us
    → terminal_units (flat_map characters us) ≡ us
units-of [] are = refl
units-of (Visible c ∷ us) are =
    let (other, rest) = AreTerminalUnits-visible c us are in
    rw other (ap (λ l. Visible c ∷ l) (units-of us rest))
units-of (Sequence cs ∷ us) are =
    let h = Begins-from cs us are in
    let others = flat_map characters us in
    rw (
      h.shape,
      h.opens,
      StopsAt-whole (ends_sequence h.opening) h.body others _
          (first-stops (h.body ++ others) (ends_sequence h.opening))
          h.before h.stop,
      take_at h.body others (length h.body) refl,
      units_past-skip h.body others,
      units-of us h.rest,
    ) refl

pub units_unique : (cs : List ℕ) (us : List TextUnit)
    → IsInTerminalUnits cs us ↔ (us ≡ terminal_units cs)
units_unique cs us = (
  λ is. sym (units-of us is.1) ∙ ap terminal_units is.0,
  λ is. subst (IsInTerminalUnits cs) (sym is) (units-tile cs, are_units cs),
)
