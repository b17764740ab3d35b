-- What parameters do to a pen, and so which numbers the table has to know, and which of them end.
use Rattle.textwrap_styles.proofs.Common.{apply, between, Color, first_of, numbers_of, Pen, plain_pen}
use Rattle.textwrap_styles.specs.Pen.{color_of, is_whole_color, Own, Reading, with_code, with_color}
use Rattle.textwrap_styles.specs.Pen.{with_field, with_parts}
use Rattle.textwrap_styles.specs.Settings.{is_color_code, is_ending_code, is_unknown, kind_of_code, number}
use Rattle.textwrap_text.proofs.Common.{◌&&◌, ◌+◌, ◌++◌, ◌<◌, ◌==◌, [], ap, arith, Bool, cases_Bool, cases_lt}
use Rattle.textwrap_text.proofs.Common.{cond, drop, eqb-true, false, fold, inl, inr, length, List, map}
use Rattle.textwrap_text.proofs.Common.{nat_tests, not, refl, subst, suc, sym, true, zero, ◌||◌}
use Rattle.textwrap_text.proofs.Common.{ℕ, ◌∙◌, ◌∷◌, ◌≡◌, ◌≢◌, ◌≤◌, ⊤}

-- ---- a pen that takes some of its fields from one pen and the others from another

-- which fields, by the numbers of the kinds that set them
abbrev pub Mask : Type 0
Mask = ℕ → Bool

abbrev pub mix : Mask → Pen → Pen → Pen
mix m v p = record {
  bold = cond (m 1) v.bold p.bold;
  faint = cond (m 2) v.faint p.faint;
  italic = cond (m 4) v.italic p.italic;
  gothic = cond (m 5) v.gothic p.gothic;
  underline = cond (m 7) v.underline p.underline;
  blink = cond (m 8) v.blink p.blink;
  inverse = cond (m 9) v.inverse p.inverse;
  hidden = cond (m 10) v.hidden p.hidden;
  crossed_out = cond (m 11) v.crossed_out p.crossed_out;
  font = cond (m 12) v.font p.font;
  foreground = cond (m 13) v.foreground p.foreground;
  background = cond (m 14) v.background p.background;
  framed = cond (m 15) v.framed p.framed;
  overlined = cond (m 16) v.overlined p.overlined;
  underline_color = cond (m 17) v.underline_color p.underline_color;
}

module _ {X : Type 0} (b c : Bool) (v w p : X) where
  pick-again : cond b v (cond c w (cond b v p)) ≡ cond b v (cond c w p)
  pick-again = grind (arith, cases_Bool)

  pick-both : cond b v (cond c w p) ≡ cond (b || c) (cond b v w) p
  pick-both = grind (arith, cases_Bool)

  pick-within : (b || c) ≡ b → cond b v (cond c w p) ≡ cond b v p
  pick-within all = grind (arith, cases_Bool)

  pick-swap : (b && c) ≡ false → cond b v (cond c w p) ≡ cond c w (cond b v p)
  pick-swap none = grind (arith, cases_Bool)

pub mix-again : (m n : Mask) (v w p : Pen) → mix m v (mix n w (mix m v p)) ≡ mix m v (mix n w p)
mix-again m n v w p = simp pick-again

pub mix-both : (m n : Mask) (v w p : Pen) → mix m v (mix n w p) ≡ mix (λ i. m i || n i) (mix m v w) p
mix-both m n v w p = simp pick-both

pub mix-within : (m n : Mask) (v w p : Pen) → ((i : ℕ) → (m i || n i) ≡ m i) → mix m v (mix n w p) ≡ mix m v p
mix-within m n v w p within = grind (arith, pick-within, within)

pub mix-swap : (m n : Mask) (v w p : Pen) → ((i : ℕ) → (m i && n i) ≡ false)
    → mix m v (mix n w p) ≡ mix n w (mix m v p)
mix-swap m n v w p none = grind (arith, pick-swap, none)

-- ---- the rows of the table

-- the fields that a kind sets: 0 all, 3 bold and faint, 6 italic and Gothic, others that of their number
abbrev pub sets : ℕ → Mask
sets k i = (k == 0) || (k == i) || (k == 3) && ((i == 1) || (i == 2)) || (k == 6) && ((i == 4) || (i == 5))

-- the kinds that set more than one field, and those whose field another kind sets too
abbrev pub is_many : ℕ → Bool
is_many k = (k == 0) || (k == 3) || (k == 6)

abbrev pub is_shared : ℕ → Bool
is_shared k = (k == 1) || (k == 2) || (k == 4) || (k == 5)

-- those that a number by itself sets: none where a colour has to follow
abbrev pub touches : ℕ → Mask
touches c i = not (is_color_code c) && sets (number (kind_of_code c)) i

abbrev pub is_own : Color → Bool
is_own Own = true
is_own _ = false

-- the field that a kind sets is not plain
unfoldable pub differs_at : Pen → ℕ → Bool
differs_at p i =
    p.bold && (i == 1) || p.faint && (i == 2) || p.italic && (i == 4) || p.gothic && (i == 5)
    || not (p.underline == 0) && (i == 7) || not (p.blink == 0) && (i == 8)
    || p.inverse && (i == 9) || p.hidden && (i == 10) || p.crossed_out && (i == 11)
    || not (p.font == 0) && (i == 12) || not (is_own p.foreground) && (i == 13)
    || not (is_own p.background) && (i == 14) || not (p.framed == 0) && (i == 15)
    || p.overlined && (i == 16) || not (is_own p.underline_color) && (i == 17)

pub plain-differs : (i : ℕ) → differs_at plain_pen i ≡ false
unfolding differs_at
plain-differs i = refl

pub record Row (c : ℕ) : Type 0 where
  pub sets : (p : Pen) → with_code c p ≡ mix (touches c) (with_code c plain_pen) p
  pub ends : cond (is_ending_code c) (with_code c plain_pen) plain_pen ≡ plain_pen
  pub unknown : (p : Pen) → cond (is_unknown (kind_of_code c)) (with_code c p) p ≡ p
  pub known : (is_color_code c || is_unknown (kind_of_code c) || is_ending_code c
      || differs_at (with_code c plain_pen) (number (kind_of_code c))) ≡ true

-- so many rows from this number on
abbrev Rows : ℕ → ℕ → Type 0
Rows zero c = ⊤
Rows (suc n) c = Row c × Rows n (c + 1)

all-rows : Rows 54 0 × Rows 54 54
unfolding with_code kind_of_code is_ending_code number is_color_code is_unknown differs_at
all-rows = (search arith, search arith)

rows-at : (n c at : ℕ) → Rows n at → at ≤ c → c < at + n → Row c
rows-at zero c at rows from to = absurd (omega arith)
rows-at (suc n) c at (row, rows) from to = elim (cases_Bool (c == at)) [
  | inl same ↦ subst Row (sym (eqb-true c at same)) row
  | inr other ↦ rows-at n c (at + 1) rows (grind (arith, nat_tests)) (omega arith)
]

-- and none further on
far-row : (c : ℕ) → 108 ≤ c → Row c
unfolding with_code kind_of_code is_ending_code number is_color_code is_unknown differs_at
far-row c far = record {
  sets = λ p. grind (arith, nat_tests);
  ends = grind (arith, nat_tests);
  unknown = λ p. grind (arith, nat_tests);
  known = grind (arith, nat_tests);
}

pub row : (c : ℕ) → Row c
row c = elim (cases_lt c 54) [
  | inl below ↦ rows-at 54 c 0 all-rows.0 (omega arith) below
  | inr from ↦ elim (cases_lt c 108) [
    | inl below ↦ rows-at 54 c 54 all-rows.1 from below
    | inr far ↦ far-row c far
  ]
]

-- which of the fields are not plain, where some come from another pen
pick-at : {X : Type 0} (f : X → Bool) (m : Mask) (i j : ℕ) (a b : X)
    → (f (cond (m j) a b) && (i == j)) ≡ cond (m i) (f a && (i == j)) (f b && (i == j))
pick-at f m i j a b = grind (arith, cases_Bool, eqb-true)

pick-or : (c a b x y : Bool) → (cond c a b || cond c x y) ≡ cond c (a || x) (b || y)
pick-or c a b x y = grind (arith, cases_Bool)

pub mix-differs : (m : Mask) (v p : Pen) (i : ℕ)
    → differs_at (mix m v p) i ≡ cond (m i) (differs_at v i) (differs_at p i)
unfolding differs_at
mix-differs m v p i =
    simp (pick-at (λ b. b) m i, pick-at (λ n. not (n == 0)) m i, (pick-at (λ c. not (is_own c)) m i), pick-or)

-- what the table does not know does nothing
pub unknown-nothing : (c : ℕ) → is_unknown (kind_of_code c) ≡ true → (p : Pen) → with_code c p ≡ p
unknown-nothing c is p = ap (λ b. cond b (with_code c p) p) (sym is) ∙ (row c).unknown p

-- and what ends nothing does something
pub other-something : (c : ℕ) → is_unknown (kind_of_code c) ≡ false → is_color_code c ≡ false
    → is_ending_code c ≡ false → with_code c plain_pen ≢ plain_pen
other-something c known plain other same =
    grind (arith, cases_Bool, (row c).known, plain-differs (number (kind_of_code c)))

-- ---- changes that set some fields and leave the others

pub record Changes (act : Pen → Pen) : Type 0 where
  pub fields : Mask
  pub values : Pen
  pub is : (p : Pen) → act p ≡ mix fields values p

pub nothing : Changes (λ p. p)
nothing = record { fields = λ i. false; values = plain_pen; is = λ p. refl }

-- one after another
pub changes-then : (act later : Pen → Pen) → Changes act → Changes later → Changes (λ p. later (act p))
changes-then act later one two = record {
  fields = λ i. two.fields i || one.fields i;
  values = mix two.fields two.values one.values;
  is = λ p. two.is (act p) ∙ ap (mix two.fields two.values) (one.is p)
      ∙ mix-both two.fields one.fields two.values one.values p;
}

-- one of two, by a test
either : {X : Type 0} (F : (Pen → X) → Type 0) (b : Bool) {act other : Pen → X} → F act → F other
    → F (λ p. cond b (act p) (other p))
either F true one two = one
either F false one two = two

code-changes : (c : ℕ) → Changes (with_code c)
code-changes c = record { fields = touches c; values = with_code c plain_pen; is = (row c).sets }

color-changes : (c : ℕ) (color : Color) → Changes (with_color c color)
unfolding with_color
color-changes c color = record {
  fields = λ i. cond (c == 38) (13 == i) (cond (c == 48) (14 == i) (17 == i));
  values = with_color c color plain_pen;
  is = λ p. grind (arith, cases_Bool);
}

parts-changes : (c : ℕ) (parts : List ℕ) → Changes (with_parts c parts)
unfolding with_parts
parts-changes c parts =
    let underline : Changes (λ p. record p { underline = first_of parts }) = record {
      fields = λ i. 7 == i;
      values = record plain_pen { underline = first_of parts };
      is = λ p. refl;
    } in
    either Changes (c == 4) underline
    (either Changes ((c == 38) || (c == 48) || (c == 58)) (color-changes c (color_of parts)) nothing)

-- with a field more: the colour that has begun does not hang on the pen
pub record Steps (act : Pen → Reading) : Type 0 where
  pub color : List ℕ
  pub pen : Pen → Pen
  pub changes : Changes pen
  pub is : (p : Pen) → act p ≡ record { pen = pen p; color = color }

abbrev at : List ℕ → Pen → Reading
at color p = record { pen = p; color = color }

steps-by : (color : List ℕ) {act : Pen → Pen} → Changes act → Steps (λ p. at color (act p))
steps-by color {act} changes = record { color = color; pen = act; changes = changes; is = λ p. refl }

field-steps : (color field : List ℕ) → Steps (λ p. with_field (at color p) field)
unfolding with_field
field-steps color field =
    let code = first_of field in
    let numbers = color ++ code ∷ [] in
    let whole = color-changes (first_of numbers) (color_of (drop 1 numbers)) in
    either Steps (not (length color == 0))
    (either Steps (is_whole_color (drop 1 numbers)) (steps-by [] whole) (steps-by numbers nothing))
    (either Steps (not (length field == 1)) (steps-by [] (parts-changes code (drop 1 field)))
    (either Steps ((code == 38) || (code == 48) || (code == 58)) (steps-by numbers nothing)
    (steps-by [] (code-changes code))))

fields-steps : (fs : List (List ℕ)) (color : List ℕ) → Steps (λ p. fold with_field (at color p) fs)
fields-steps [] color = steps-by color nothing
fields-steps (f ∷ fs) color =
    let one = field-steps color f in
    let others = fields-steps fs one.color in
    record {
      color = others.color;
      pen = λ p. others.pen (one.pen p);
      changes = changes-then one.pen others.pen one.changes others.changes;
      is = λ p. ap (λ r. fold with_field r fs) (one.is p) ∙ others.is (one.pen p);
    }

pub apply-changes : (t : List ℕ) → Changes (apply t)
apply-changes t =
    let all = fields-steps (map numbers_of (between 0x3B t)) [] in
    record {
      fields = all.changes.fields;
      values = all.changes.values;
      is = λ p. ap (λ (r : Reading). r.pen) (all.is p) ∙ all.changes.is p;
    }
