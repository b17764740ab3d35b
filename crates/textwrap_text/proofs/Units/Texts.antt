-- The units of a text and of its parts: there is one list of them, and it is computed.
use Rattle.textwrap_text.proofs.Common.{eqb-false, length-take-le, take-append-drop, take-append-le}
use Rattle.textwrap_text.proofs.Common.{append_assoc, Bool, kind_number, length-append, sum_by-cons}
use Rattle.textwrap_text.proofs.Common.{append-nil, cases_Bool, characters, escape_len, units_width}
use Rattle.textwrap_text.proofs.Common.{AreUnits, inl, nat_tests, take-take, units_past, visible_of}
use Rattle.textwrap_text.proofs.Common.{cases_lt, drop_all, eqb-true, flat_map, Sequence, TextUnit}
use Rattle.textwrap_text.proofs.Common.{[], columns, take_all, take_at, taken_at, Visible, zero-add}
use Rattle.textwrap_text.proofs.Common.{arith, escape, le-leb, length, List, ne_eqb, sum_by, ⊎_elim}
use Rattle.textwrap_text.proofs.Common.{cond, drop, false, last, refl, rules, subst, take, units, ℕ}
use Rattle.textwrap_text.proofs.Common.{inr, not, suc, sym, true, zero, ◌++◌, ◌<◌, ◌==◌, ◌||◌}
use Rattle.textwrap_text.proofs.Common.{ap, ◌↔◌, ◌∙◌, ◌∷◌, ◌≡◌, ◌≢◌, ◌≤◌, ◌⊎◌}
use Rattle.textwrap_text.proofs.Lists.Parts.{last-push, last_but_one, last_but_one-push}
use Rattle.textwrap_text.specs.Units.{is_command_end, is_command_start, is_control_start, IsInUnits}
use Rattle.textwrap_text.specs.Units.{command_len, control_len, ends, is_control_end, IsWhole}
use Rattle.unicode.{proofs.TableComputing.tables, specs.Rows.in_ranges, specs.Rows.Range}
use Rattle.unicode.proofs.{Facts.always, Stepped.of_ranges, Stepped.Stepped, Stepped.zip_stepped}
use Rattle.unicode.proofs.{Facts.Stepped-always, StepsLemmas.range_rows, StepsLemmas.rises_from}
use Rattle.unicode_width.proofs.KindLemmas.{kind_from_number-kind_number, kind_number_stepped}
use Rattle.unicode_width.specs.Width.{alone, char_width}

-- ---- the units tile the characters

pub units_past-tile : (n : ℕ) (cs : List ℕ) → flat_map characters (units_past n cs) ≡ drop n cs
units_past-tile n [] = sym (drop_all n [] (omega arith))
units_past-tile zero (c ∷ cs) =
    grind (arith, take-append-drop, units_past-tile (escape_len cs) cs, units_past-tile 0 cs)
units_past-tile (suc n) (c ∷ cs) = units_past-tile n cs

pub units-tile : (cs : List ℕ) → flat_map characters (units cs) ≡ cs
units-tile cs = units_past-tile 0 cs

pub units_past-end : (n : ℕ) (cs : List ℕ) → length cs ≤ n → units_past n cs ≡ []
units_past-end n [] short = refl
units_past-end zero (c ∷ cs) short = absurd (omega arith)
units_past-end (suc n) (c ∷ cs) short = units_past-end n cs (omega arith)

-- ---- columns

pub units_width-is : (us : List TextUnit) → sum_by columns (flat_map visible_of us) ≡ units_width us
units_width-is [] = refl
units_width-is (Visible c ∷ us) = search (rules, arith, sum_by-cons, units_width-is us)
units_width-is (Sequence cs ∷ us) = search (rules, arith, sum_by-cons, zero-add, units_width-is us)

-- ---- how far an escape sequence goes

-- n of the characters are the fewest that pass, or all where no prefix passes
record StopsAt (passes : List ℕ → Bool) (cs : List ℕ) (n : ℕ) : Type 0 where
  within : n ≤ length cs
  before : (k : ℕ) → k < n → passes (take k cs) ≡ false
  stop : (passes (take n cs) ≡ true) ⊎ ((n ≡ length cs) × (passes (take n cs) ≡ false))

StopsAt-cons : (whole tail : List ℕ → Bool) (c : ℕ) (cs : List ℕ) (n : ℕ) → whole [] ≡ false
    → ((l : List ℕ) → whole (c ∷ l) ≡ tail l) → StopsAt tail cs n → StopsAt whole (c ∷ cs) (suc n)
StopsAt-cons whole tail c cs n none along stops = grind arith
  where
    before : (k : ℕ) → k < suc n → whole (take k (c ∷ cs)) ≡ false
    before zero below = none
    before (suc k) below = along (take k cs) ∙ stops.before k (omega arith)

module _ (passes : List ℕ → Bool) (test : ℕ → ℕ → Bool) (len : ℕ → List ℕ → ℕ)
    (len-nil : (b : ℕ) → len b [] ≡ 0)
    (len-cons : (b c : ℕ) (cs : List ℕ) → len b (c ∷ cs) ≡ cond (test b c) 1 (suc (len c cs)))
    (passes-push : (front : List ℕ) (b c : ℕ) → passes ((front ++ b ∷ []) ++ c ∷ []) ≡ test b c)
  where
    StopsAt-len : (cs front : List ℕ) (b : ℕ) → passes front ≡ false
        → ((c : ℕ) → passes (front ++ c ∷ []) ≡ test b c)
        → StopsAt (λ l. passes (front ++ l)) cs (len b cs)
    StopsAt-len [] front b none next = grind (arith, append-nil, len-nil)
    StopsAt-len (c ∷ cs) front b none next =
        let more = λ (n : ℕ). StopsAt-cons (λ l. passes (front ++ l)) (λ l. passes ((front ++ c ∷ []) ++ l))
        c cs n (rw append-nil none) (λ l. ap passes (sym (append_assoc front (c ∷ []) l))) in
        elim (cases_Bool (test b c)) [
          | inl here ↦ rw (len-cons b c cs, here) (more 0 (grind (arith, append-nil)))
          | inr on ↦ rw (len-cons b c cs, on) (more (len c cs)
              (StopsAt-len cs (front ++ c ∷ []) c (next c ∙ on) (passes-push front c)))
        ]

control-stops : (cs : List ℕ) → StopsAt (λ l. is_control_end (last l)) cs (control_len cs)
control-stops cs =
    StopsAt-len (λ l. is_control_end (last l)) (λ b c. is_control_end c) (λ b l. control_len l)
    (λ b. refl) (λ b c l. refl)
    (λ front b c. ap is_control_end (last-push (front ++ b ∷ []) c)) cs [] 0 refl (λ c. refl)

command-stops : (c : ℕ) → is_command_start c ≡ true → (cs : List ℕ)
    → StopsAt (λ l. is_command_end (last_but_one l) (last l)) cs (command_len c cs)
command-stops c start cs =
    StopsAt-len (λ l. is_command_end (last_but_one l) (last l)) is_command_end command_len
    (λ b. refl) (λ b d l. refl)
    (λ front b d. ap (λ x. is_command_end x (last ((front ++ b ∷ []) ++ d ∷ [])))
    (last_but_one-push front b d) ∙ ap (is_command_end b) (last-push (front ++ b ∷ []) d))
    cs [] c refl (λ d. grind (arith, nat_tests))

escape-stops : (cs : List ℕ) → StopsAt ends cs (escape_len cs)
escape-stops [] = grind arith
escape-stops (c ∷ cs) = elim (cases_Bool (is_control_start c)) [
  | inl control ↦ rw control (StopsAt-cons ends (λ l. is_control_end (last l)) c cs
      (control_len cs) refl (λ l. rw control refl) (control-stops cs))
  | inr other ↦ elim (cases_Bool (is_command_start c)) [
    | inl command ↦ rw (other, command)
        (StopsAt-cons ends (λ l. is_command_end (last_but_one l) (last l)) c cs
        (command_len c cs) refl (λ l. rw (other, command) refl) (command-stops c command cs))
    | inr plain ↦ rw (other, plain) (grind (arith, StopsAt-cons))
  ]
]

-- ---- the units of a text are units

AreUnits-cons : (u : TextUnit) (us : List TextUnit) → IsWhole u → AreUnits us → AreUnits (u ∷ us)
AreUnits-cons u [] whole rest = inl whole
AreUnits-cons u (v ∷ us) whole rest = (whole, rest)

sequence-units : (cs : List ℕ) (n : ℕ) → StopsAt ends cs n → AreUnits (units_past n cs)
    → AreUnits (Sequence (escape ∷ take n cs) ∷ units_past n cs)
sequence-units cs n stops rest =
    let len : length (take n cs) ≡ n = length-take-le n cs stops.within in
    let before : (k : ℕ) → k < n → ends (take k (take n cs)) ≡ false = grind (arith, take-take) in
    ⊎_elim
    (λ (passed : ends (take n cs) ≡ true). AreUnits-cons (Sequence (escape ∷ take n cs))
    (units_past n cs) (take n cs, refl, passed, λ k below. before k (omega arith)) rest)
    (grind (arith, take_all, units_past-end)) stops.stop

AreUnits-at : (c : ℕ) (cs : List ℕ) (b : Bool) → (c == escape) ≡ b
    → AreUnits (units_past (cond b (escape_len cs) 0) cs)
    → AreUnits (cond b (Sequence (c ∷ take (escape_len cs) cs)) (Visible c) ∷ units_past
    (cond b (escape_len cs) 0) cs)
AreUnits-at c cs true is rest = grind (arith, eqb-true, sequence-units, escape-stops)
AreUnits-at c cs false is rest = grind (arith, AreUnits-cons, eqb-false)

AreUnits-units_past : (cs : List ℕ) (n : ℕ) → AreUnits (units_past n cs)
AreUnits-units_past [] n = tt
AreUnits-units_past (c ∷ cs) zero =
    AreUnits-at c cs (c == escape) refl (AreUnits-units_past cs (taken_at c cs))
AreUnits-units_past (c ∷ cs) (suc n) = AreUnits-units_past cs n

pub IsInUnits-units : (cs : List ℕ) → IsInUnits cs (units cs)
IsInUnits-units cs = (units-tile cs, AreUnits-units_past cs 0)

-- ---- and no other list is

-- how a list of units goes on after the sequence that it begins with
record Begins (cs : List ℕ) (us : List TextUnit) : Type 0 where
  body : List ℕ
  shape : cs ≡ escape ∷ body
  before : (k : ℕ) → k < length body → ends (take k body) ≡ false
  stop : (ends body ≡ true) ⊎ (flat_map characters us ≡ [])
  rest : AreUnits us

Begins-from : (cs : List ℕ) (us : List TextUnit) → AreUnits (Sequence cs ∷ us) → Begins cs us
Begins-from cs [] (inl whole) = grind arith
Begins-from cs [] (inr open_last) = grind arith
Begins-from cs (v ∷ us) (whole, rest) = grind arith

AreUnits-visible : (c : ℕ) (us : List TextUnit) → AreUnits (Visible c ∷ us)
    → (c ≢ escape) × AreUnits us
AreUnits-visible c [] (inl whole) = (whole, tt)
AreUnits-visible c [] (inr open_last) = absurd open_last
AreUnits-visible c (v ∷ us) (whole, rest) = (whole, rest)

-- what passes, or is all, but has no beginning that passes, is where it stops
StopsAt-whole : (passes : List ℕ → Bool) (body rest : List ℕ) (n : ℕ)
    → StopsAt passes (body ++ rest) n → ((k : ℕ) → k < length body → passes (take k body) ≡ false)
    → (passes body ≡ true) ⊎ (rest ≡ []) → n ≡ length body
StopsAt-whole passes body rest n stops before stop =
    let first : take (length body) (body ++ rest) ≡ body = take_at body rest (length body) refl in
    grind (arith, cases_lt, take-append-le, length-append)

units_past-skip : (xs ys : List ℕ) → units_past (length xs) (xs ++ ys) ≡ units ys
units_past-skip [] ys = refl
units_past-skip (x ∷ xs) ys = units_past-skip xs ys

units-of : (us : List TextUnit) → AreUnits us → units (flat_map characters us) ≡ us
units-of [] are = refl
units-of (Visible c ∷ us) are =
    let (other, rest) = AreUnits-visible c us are in
    rw (ne_eqb c escape other) (ap (λ l. Visible c ∷ l) (units-of us rest))
units-of (Sequence cs ∷ us) are =
    let h = Begins-from cs us are in
    let others = flat_map characters us in
    rw (
      h.shape,
      StopsAt-whole ends h.body others _ (escape-stops (h.body ++ others)) h.before h.stop,
      take_at h.body others (length h.body) refl,
      units_past-skip h.body others,
      units-of us h.rest,
    ) refl

pub units_unique : (cs : List ℕ) (us : List TextUnit) → IsInUnits cs us ↔ (us ≡ units cs)
units_unique cs us = (
  λ is. sym (units-of us is.1) ∙ ap units is.0,
  λ is. subst (IsInUnits cs) (sym is) (IsInUnits-units cs),
)

AreUnits-front : (xs ys : List TextUnit) → AreUnits (xs ++ ys) → AreUnits xs
AreUnits-front [] ys are = tt
AreUnits-front (u ∷ []) [] are = are
AreUnits-front (u ∷ []) (v ∷ ys) are = inl are.0
AreUnits-front (u ∷ v ∷ xs) ys are = (are.0, AreUnits-front (v ∷ xs) ys are.1)

-- the characters of a part of the units have that part as their units
pub units-part : (cs : List ℕ) (xs ys : List TextUnit) → units cs ≡ xs ++ ys
    → units (flat_map characters xs) ≡ xs
units-part cs xs ys e = search (rules, arith, units-of, AreUnits-front, AreUnits-units_past)

-- ---- what the tables of Unicode give for each character of a range, by computation, and the
-- characters whose columns the code does not look up

-- what passes at each step within a range passes at each of its characters
module _ {V : Type 0} (range : Range) (rises : rises_from 0 (range_rows (range ∷ [])) ≡ true)
    (f : ℕ → V) (steps : Stepped f) (p : V → Bool) where
  abbrev pub passes_at : ℕ → Bool
  passes_at c = not (in_ranges (range ∷ []) c) || p (f c)

  abbrev pub passes_stepped : Stepped passes_at
  passes_stepped = zip_stepped (λ within v. not within || p v) (in_ranges (range ∷ [])) f
      (of_ranges (range ∷ []) rises) steps

  within-range : (c : ℕ) → range.0 ≤ c → c ≤ range.1 → in_ranges (range ∷ []) c ≡ true
  unfolding in_ranges
  within-range c low high = rw (le-leb _ _ low, le-leb _ _ high) refl

  pub passes-within : range.1 ≤ 0x10_FFFF → always passes_at passes_stepped ≡ true
      → (c : ℕ) → range.0 ≤ c → c ≤ range.1 → p (f c) ≡ true
  passes-within last ok c low high = rw (within-range c low high)
      at (Stepped-always passes_at passes_stepped ok c (omega (arith, last, high)))

-- two columns, by the table of widths
two-columns : (c : ℕ) → 0xA0 ≤ c → (kind_number c == 2) ≡ true → 2 ≡ columns c
unfolding alone char_width
two-columns c high is = grind (arith, nat_tests, kind_from_number-kind_number, eqb-true)

pub syllable-columns : (c : ℕ) → 0x3041 ≤ c → c ≤ 0x3096 → 2 ≡ columns c
unfolding tables kind_number_stepped
syllable-columns c low high =
    two-columns c (omega (arith, low)) (passes-within (0x3041, 0x3096) refl kind_number kind_number_stepped
    (λ n. n == 2) (omega arith) refl c low high)

pub ideograph-columns : (c : ℕ) → 0x4E00 ≤ c → c ≤ 0x9FFF → 2 ≡ columns c
unfolding tables kind_number_stepped
ideograph-columns c low high =
    two-columns c (omega (arith, low)) (passes-within (0x4E00, 0x9FFF) refl kind_number kind_number_stepped
    (λ n. n == 2) (omega arith) refl c low high)
