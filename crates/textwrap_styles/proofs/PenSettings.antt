-- What a setting that the table knows does to a pen: it sets or ends the fields of its kind.
use Rattle.textwrap_styles.proofs.Common.{apply, between, Color, digits_value, fields, first_of}
use Rattle.textwrap_styles.proofs.Common.{is_ascii_digit, is_in_range, numbers_of, Pen, plain_pen}
use Rattle.textwrap_styles.proofs.PenCodes.{differs_at, is_many, is_own, mix, row, sets}
use Rattle.textwrap_styles.proofs.SettingTexts.{between-rest, between-some, code-first, colon-first}
use Rattle.textwrap_styles.proofs.SettingTexts.{details-cons, details-nil, drop-all, fields-few, fields-many}
use Rattle.textwrap_styles.proofs.SettingTexts.{first_field, first_number, first_text, first_text-first}
use Rattle.textwrap_styles.{proofs.SettingTexts.{has_colon, InRange, IsSetting}, specs.Pen.color_of}
use Rattle.textwrap_styles.specs.Pen.{direct_color, is_whole_color, read, Reading, with_code, with_color}
use Rattle.textwrap_styles.specs.{Pen.{with_field, with_first, with_parts}, Settings.{code, color_fields}}
use Rattle.textwrap_styles.specs.Settings.{details, first_setting, is_color_code, is_end, is_ending_code}
use Rattle.textwrap_styles.specs.Settings.{is_unknown, kind_of, kind_of_code, number, taken_fields}
use Rattle.textwrap_text.proofs.Common.{[], ℕ, ◌+◌, ◌<◌, ◌==◌, ◌||◌, ◌∙◌, ◌∷◌, ◌≡◌, ◌≢◌, ◌≤◌, ◌⊎◌, ap, arith}
use Rattle.textwrap_text.proofs.Common.{cases_Bool, drop, eqb-true, false, fold, inl, inr, length, length-map}
use Rattle.textwrap_text.proofs.Common.{List, map, min, nat_tests, prefix_len, refl, rules, sym, true}
use Rattle.textwrap_text.proofs.Common.{true≢false}

-- what a number that stands by itself, or that colons join to others, does
abbrev pub alone : Pen → Reading
alone pen = record { pen = pen; color = [] }

-- the fields behind 38, 48 or 58 that make a colour: 5 and a number, or 2 and three
abbrev pub IsColor : List (List ℕ) → Type 0
IsColor fs =
    (first_of (numbers_of (first_text fs)) ≡ 5) × (length fs ≡ 2)
    ⊎ (first_of (numbers_of (first_text fs)) ≡ 2) × (length fs ≡ 4)

pub behind : (p : Pen) (c : ℕ) (fs : List (List ℕ)) → IsColor fs
    → fold with_field (record { pen = p; color = c ∷ [] }) (map numbers_of fs)
    ≡ alone (with_color c (color_of (map (λ f. first_of (numbers_of f)) fs)) p)
unfolding with_field is_whole_color
behind p c (m ∷ n ∷ []) (inl (is, len)) = grind (arith, cases_Bool, nat_tests)
behind p c (m ∷ r ∷ g ∷ b ∷ []) (inr (is, len)) = grind (arith, cases_Bool, nat_tests)
behind p c _ (inl (is, len)) = absurd (omega arith)
behind p c _ (inr (is, len)) = absurd (omega arith)

color-stays : (c : ℕ) → is_color_code c ≡ true → is_ending_code c ≡ false
unfolding is_color_code is_ending_code
color-stays c is = grind (arith, cases_Bool, nat_tests)

-- each of them sets its own field
pub color-sets : (c : ℕ) (color : Color) → is_color_code c ≡ true → (p : Pen)
    → with_color c color p ≡ mix (sets (number (kind_of_code c))) (with_color c color plain_pen) p
unfolding with_color kind_of_code number is_color_code
color-sets c color is p = grind (arith, cases_Bool, nat_tests)

-- none of them is the terminal's own
direct-own : (numbers : List ℕ) → is_own (direct_color numbers) ≡ false
direct-own (r ∷ g ∷ b ∷ []) = refl
direct-own (space ∷ r ∷ g ∷ b ∷ more) = refl
direct-own _ = refl

color-own : (numbers : List ℕ) → is_own (color_of numbers) ≡ false
unfolding color_of
color-own numbers = grind (arith, cases_Bool, direct-own (drop 1 numbers))

color-differs : (c : ℕ) (color : Color) → is_color_code c ≡ true → is_own color ≡ false
    → differs_at (with_color c color plain_pen) (number (kind_of_code c)) ≡ true
unfolding with_color kind_of_code number differs_at is_color_code
color-differs c color is other = grind (arith, cases_Bool, nat_tests, other)

-- ---- what is known of a setting that the table knows

pub record Known (t : List ℕ) : Type 0 where
  pub settled : (p : Pen) → read t p ≡ alone (apply t p)
  pub sets : (p : Pen) → apply t p ≡ mix (sets (number (kind_of t))) (apply t plain_pen) p
  pub ends : is_end t ≡ true → apply t plain_pen ≡ plain_pen
  pub differs : is_end t ≡ false → differs_at (apply t plain_pen) (number (kind_of t)) ≡ true

-- where it does this
pub known-by : (t : List ℕ) (act : Pen → Pen) → ((p : Pen) → read t p ≡ alone (act p))
    → ((p : Pen) → act p ≡ mix (sets (number (kind_of t))) (act plain_pen) p)
    → (is_end t ≡ true → act plain_pen ≡ plain_pen)
    → (is_end t ≡ false → differs_at (act plain_pen) (number (kind_of t)) ≡ true) → Known t
known-by t act is own ends differ =
    let same : (p : Pen) → apply t p ≡ act p = λ p. ap (λ (r : Reading). r.pen) (is p) in
    record {
      settled = λ p. is p ∙ ap alone (sym (same p));
      sets = λ p. rw (same p, same plain_pen) (own p);
      ends = λ end. same plain_pen ∙ ends end;
      differs = λ stays. rw (same plain_pen) (differ stays);
    }

-- its fields
pub one-of : (xs : List (List ℕ)) → 1 ≤ length xs → length xs ≤ 1 → xs ≡ first_text xs ∷ []
one-of (x ∷ []) some few = refl
one-of _ some few = absurd (omega arith)

-- the number of a code that the table knows is not cut off
pub code-same : (c n : ℕ) → c ≡ min 255 n → c ≢ 255 → n ≡ c
code-same c n is small = omega arith

pub own-fields : (t : List ℕ) (n : ℕ) → IsSetting t → taken_fields t ≡ n → 1 ≤ n → fields n t ≡ t
unfolding first_setting
own-fields t n is taken some = grind (arith, cases_Bool, nat_tests)

module _ (t : List ℕ) (is : IsSetting t) where
  pub field-len : length (numbers_of (first_field t)) ≡ length (between 0x3A (first_field t))
  field-len = length-map (between 0x3A (first_field t)) (digits_value 10)

  pub read-one : taken_fields t ≡ 1 → (p : Pen) → read t p ≡ with_field (alone p) (numbers_of (first_field t))
  read-one taken p =
      let one : between 0x3B t ≡ first_field t ∷ [] =
      grind (arith, cases_Bool, nat_tests, one-of, between-some, fields-few, own-fields) in
      ap (λ fs. fold with_field (alone p) (map numbers_of fs)) one

pub kind-code : (t : List ℕ) → is_unknown (kind_of t) ≡ false → kind_of t ≡ kind_of_code (code t)
unfolding kind_of is_unknown
kind-code t known = grind (arith, cases_Bool, nat_tests)

taken-some : (t : List ℕ) → is_unknown (kind_of t) ≡ false → (taken_fields t == 0) ≡ false
unfolding kind_of is_unknown
taken-some t known = grind (arith, cases_Bool, nat_tests)

far-unknown : is_unknown (kind_of_code 255) ≡ true
unfolding kind_of_code is_unknown
far-unknown = refl

-- 0, 22 and 23 set more than one field
kind-many : (c : ℕ) → is_many (number (kind_of_code c)) ≡ ((c == 0) || (c == 22) || (c == 23))
unfolding kind_of_code number
kind-many c = grind (arith, cases_Bool, nat_tests)

-- one more character of the first number does not change the later ones
later-values : (c : ℕ) (texts : List (List ℕ))
    → drop 1 (map (digits_value 10) (with_first c texts)) ≡ drop 1 (map (digits_value 10) texts)
later-values c [] = refl
later-values c (t ∷ texts) = refl

rest-range : (t : List ℕ) → InRange t → InRange (drop 1 (details t))
unfolding details
rest-range t all =
    drop-all (is_in_range 0x30 0x3B) 1 (details t)
    (drop-all (is_in_range 0x30 0x3B) (prefix_len is_ascii_digit t) t all)

-- the second number of a field is the first one behind the colon
second-first : (t : List ℕ) → InRange t → has_colon t ≡ true
    → first_of (drop 1 (numbers_of (first_field t))) ≡ first_number (drop 1 (details t))
second-first [] all colon = rw details-nil refl
second-first (c ∷ cs) all colon =
    grind (arith, cases_Bool, nat_tests, details-cons, first_text-first, later-values, second-first cs)

colon-end : (t : List ℕ) → InRange t → has_colon t ≡ true → (code t == 4) ≡ true
    → is_end t ≡ (first_of (drop 1 (numbers_of (first_field t))) == 0)
unfolding is_end
colon-end t range colon four =
    let value = code-first (drop 1 (details t)) (rest-range t range) in
    grind (arith, cases_Bool, nat_tests, value, second-first t range colon)

colon-other : (t : List ℕ) → has_colon t ≡ true → (code t == 4) ≡ false → is_end t ≡ false
unfolding is_end
colon-other t colon other = grind (arith, cases_Bool)

-- ---- what follows 38, 48 or 58

color-cases : (t : List ℕ) (mode : ℕ) → (color_fields t mode == 0) ≡ false
    → ((mode == 5) ≡ true) × (color_fields t mode ≡ 3) × (length (fields 2 t) < length t)
    ⊎ ((mode == 2) ≡ true) × (color_fields t mode ≡ 5) × (length (fields 4 t) < length t)
unfolding color_fields
color-cases t mode some = grind (arith, cases_Bool, nat_tests)

module _ (t : List ℕ) (is : IsSetting t) (known : is_unknown (kind_of t) ≡ false) where
  abbrev field : List ℕ
  field = first_field t

  number-is : first_number t ≡ code t
  number-is = search (rules, arith, code-same, first_number, code-first, far-unknown, kind-code)

  -- ---- a number by itself

  plain-taken : has_colon t ≡ false → is_color_code (code t) ≡ false → taken_fields t ≡ 1
  unfolding taken_fields
  plain-taken none plain = grind (arith, cases_Bool, nat_tests, taken-some t known)

  plain-end : has_colon t ≡ false → is_end t ≡ is_ending_code (code t)
  unfolding is_end
  plain-end none = grind (arith, cases_Bool)

  field-one : has_colon t ≡ false → length (numbers_of field) ≡ 1
  field-one none = grind (arith, cases_Bool, nat_tests, colon-first, field-len)

  plain-differs : has_colon t ≡ false → is_color_code (code t) ≡ false → is_end t ≡ false
      → differs_at (with_code (code t) plain_pen) (number (kind_of t)) ≡ true
  plain-differs none plain stays =
      grind (arith, cases_Bool, (row (code t)).known, kind-code t known, plain-end none)

  plain-known : has_colon t ≡ false → is_color_code (code t) ≡ false → Known t
  unfolding with_field is_color_code
  plain-known none plain =
      known-by t (with_code (code t)) (λ p.
      grind (arith, cases_Bool, read-one t is (plain-taken none plain) p, field-one none, number-is, plain))
      (λ p. rw (kind-code t known) (rw plain at (row (code t)).sets p))
      (λ end. rw (sym (plain-end none) ∙ end) at (row (code t)).ends) (plain-differs none plain)

  -- a colour, however it is written
  color-by : (numbers : List ℕ) → is_color_code (code t) ≡ true → is_end t ≡ false
      → ((p : Pen) → read t p ≡ alone (with_color (code t) (color_of numbers) p)) → Known t
  color-by numbers one stays reads =
      let color = color_of numbers in
      known-by t (with_color (code t) color) reads
      (λ p. rw (kind-code t known) (color-sets (code t) color one p))
      (λ end. absurd (true≢false (sym end ∙ stays)))
      (λ stays. rw (kind-code t known) (color-differs (code t) color one (color-own numbers)))

  -- ---- colons

  colon-code : has_colon t ≡ true → ((code t == 4) || is_color_code (code t)) ≡ true
  unfolding taken_fields
  colon-code colon = grind (arith, cases_Bool, nat_tests, taken-some t known)

  colon-taken : has_colon t ≡ true → taken_fields t ≡ 1
  unfolding taken_fields
  colon-taken colon = grind (arith, cases_Bool, nat_tests, taken-some t known)

  colon-read : has_colon t ≡ true → (p : Pen)
      → read t p ≡ alone (with_parts (code t) (drop 1 (numbers_of field)) p)
  unfolding with_field
  colon-read colon p =
      search (rules, arith, cases_Bool, colon-first, field-len, read-one, colon-taken, number-is)

  colon-known : has_colon t ≡ true → Known t
  unfolding with_parts kind_of_code number differs_at is_color_code
  colon-known colon = elim (cases_Bool (code t == 4)) [
    | inl four ↦
        let parts = drop 1 (numbers_of field) in
        let same : code t ≡ 4 = eqb-true (code t) 4 four in
        let ends = colon-end t is.range colon four in
        known-by t (with_parts 4 parts)
        (λ p. colon-read colon p ∙ ap (λ n. alone (with_parts n parts p)) same)
        (λ p. rw (kind-code t known, same) refl)
        (λ end. ap (λ n. record plain_pen { underline = n }) (eqb-true (first_of parts) 0 (sym ends ∙ end)))
        (λ stays. rw (kind-code t known, same, sym ends ∙ stays) refl)
    | inr other ↦
        let color : is_color_code (code t) ≡ true =
        ap (λ b. b || is_color_code (code t)) (sym other) ∙ colon-code colon in
        color-by (drop 1 (numbers_of field)) color (colon-other t colon other)
        (λ p. grind (arith, cases_Bool, nat_tests, colon-read colon p, color))
  ]

  -- ---- a colour behind semicolons

  color-taken : has_colon t ≡ false → is_color_code (code t) ≡ true
      → taken_fields t ≡ color_fields t (code (drop 1 (details t)))
  unfolding taken_fields
  color-taken none color = grind (arith, cases_Bool)

  color-first : has_colon t ≡ false → is_color_code (code t) ≡ true → (p : Pen)
      → with_field (alone p) (numbers_of field) ≡ record { pen = p; color = code t ∷ [] }
  unfolding with_field is_color_code
  color-first none color p = grind (arith, cases_Bool, nat_tests, color, field-one, number-is)

  abbrev rest : List ℕ
  rest = drop 1 (details t)

  mode-is : (mode : ℕ) → (code rest == mode) ≡ true → mode < 255 → first_number rest ≡ mode
  mode-is mode same small =
      code-same mode (first_number rest) (sym (eqb-true (code rest) mode same)
      ∙ code-first rest (rest-range t is.range)) (omega arith)

  -- as many fields as the colour takes
  color-of : (n : ℕ) → has_colon t ≡ false → is_color_code (code t) ≡ true
      → taken_fields t ≡ n + 1 → 1 ≤ n → length (fields n t) < length t
      → (length (between 0x3B rest) ≡ n → IsColor (between 0x3B rest)) → Known t
  unfolding is_ending_code
  color-of n none color taken some more makes =
      let many = fields-many n t some more in
      let few = fields-few (n + 1) t (omega arith) (own-fields t (n + 1) is taken (omega arith)) in
      let all = between-rest t is.range none (omega arith) in
      let len : length (between 0x3B t) ≡ length (between 0x3B rest) + 1 = ap length all ∙ omega arith in
      color-by (map (λ f. first_of (numbers_of f)) (between 0x3B rest)) color
      (plain-end none ∙ color-stays (code t) color)
      (λ p. ap (λ fs. fold with_field (alone p) (map numbers_of fs)) all
      ∙ ap (λ r. fold with_field r (map numbers_of (between 0x3B rest))) (color-first none color p)
      ∙ behind p (code t) (between 0x3B rest) (makes (omega arith)))

  color-known : has_colon t ≡ false → is_color_code (code t) ≡ true → Known t
  color-known none color =
      let taken = color-taken none color in
      elim (color-cases t (code rest) (ap (λ n. n == 0) (sym taken) ∙ taken-some t known)) [
        | inl (five, count, more) ↦ color-of 2 none color (taken ∙ count) (omega arith) more
            (λ len. inl (mode-is 5 five (omega arith), len))
        | inr (two, count, more) ↦ color-of 4 none color (taken ∙ count) (omega arith) more
            (λ len. inr (mode-is 2 two (omega arith), len))
      ]

  pub all-known : Known t
  all-known = grind (arith, cases_Bool, nat_tests, has_colon, colon-known, color-known, plain-known)

  -- one that sets more than one field is an end
  pub many-end : is_many (number (kind_of t)) ≡ true → is_end t ≡ true
  unfolding is_color_code is_ending_code
  many-end many =
      let code-is = sym (kind-many (code t)) ∙ (rw (kind-code t known) at many) in
      grind (arith, cases_Bool, nat_tests, code-is, colon-code, plain-end)
