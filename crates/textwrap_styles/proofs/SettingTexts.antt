-- The fields of parameters, as the table and a pen read them, and settings, each its own first one.
use Rattle.std.proofs.lemmas.List.Sums.{AllPass-from_list_all, list_all-from_AllPass, take_while-cons}
use Rattle.textwrap_styles.proofs.Common.{between, digits_value, fields, first_of, is_ascii_digit}
use Rattle.textwrap_styles.{proofs.Common.{is_in_range, numbers_of, settings}, specs.Pen.with_first}
use Rattle.textwrap_styles.specs.Settings.{code, color_fields, details, first_setting, settings_past}
use Rattle.textwrap_styles.specs.Settings.{taken_fields}
use Rattle.textwrap_text.proofs.Common.{[], ℕ, ◌++◌, ◌+◌, ◌-◌, ◌<◌, ◌==◌, ◌∙◌, ◌∷◌, ◌≡◌, ◌≢◌, ◌≤◌, All}
use Rattle.textwrap_text.proofs.Common.{All-cons, All-drop, All-nil, All-take, ap, arith, Bool, cases_Bool}
use Rattle.textwrap_text.proofs.Common.{codes, cond, drop, drop_all, drop_more, false, length, length-take}
use Rattle.textwrap_text.proofs.Common.{List, list_all, map, min, nat_eq, nat_tests, not, refl, rules}
use Rattle.textwrap_text.proofs.Common.{starts_with, subst, suc, sym, take, take_all, take_while, true, zero}

-- ---- the first fields of parameters

pub fields-take : (n : ℕ) (t : List ℕ) → take (length (fields n t)) t ≡ fields n t
fields-take n [] = refl
fields-take n (c ∷ cs) = grind (arith, cases_Bool, fields-take n cs, fields-take (n - 1) cs)

fields-again : (n : ℕ) (t : List ℕ) → fields n (fields n t) ≡ fields n t
fields-again n [] = refl
fields-again n (c ∷ cs) = grind (arith, cases_Bool, fields-again n cs, fields-again (n - 1) cs)

-- a semicolon is no digit
semicolon-no_digit : (c : ℕ) → (c == 0x3B) ≡ true → is_ascii_digit c ≡ false
semicolon-no_digit c is = grind (arith, cases_Bool, nat_tests)

-- the digits that they begin with
fields-digits : (n : ℕ) (t : List ℕ) → take_while is_ascii_digit (fields n t) ≡ take_while is_ascii_digit t
fields-digits n [] = refl
fields-digits n (c ∷ cs) =
    let cons = take_while-cons is_ascii_digit c in
    let rest = fields-digits n cs in
    grind (arith, cases_Bool, semicolon-no_digit, cons cs, cons (fields n cs), cons (fields (n - 1) cs), rest)

fields-code : (n : ℕ) (t : List ℕ) → code (fields n t) ≡ code t
unfolding code
fields-code n t = ap (λ ds. min 255 (digits_value 10 ds)) (fields-digits n t)

-- what follows these
pub details-cons : (c : ℕ) (cs : List ℕ) → details (c ∷ cs) ≡ cond (is_ascii_digit c) (details cs) (c ∷ cs)
unfolding details
details-cons c cs = grind (arith, cases_Bool, nat_tests)

pub details-nil : details [] ≡ []
unfolding details
details-nil = refl

fields-details : (n : ℕ) (t : List ℕ) → details (fields n t) ≡ fields n (details t)
fields-details n [] = details-nil ∙ ap (fields n) (sym details-nil)
fields-details n (c ∷ cs) =
    grind (arith, cases_Bool, semicolon-no_digit, details-cons, details-nil, fields-details n cs)

fields-colon : (n : ℕ) (t : List ℕ)
    → starts_with nat_eq (fields n t) (codes ":") ≡ starts_with nat_eq t (codes ":")
fields-colon n [] = refl
fields-colon n (c ∷ cs) = grind (arith, cases_Bool, nat_tests)

-- the number behind the first of them
fields-mode : (n : ℕ) (t : List ℕ) → 2 ≤ n → code (drop 1 (fields n t)) ≡ code (drop 1 t)
fields-mode n [] more = refl
fields-mode n (c ∷ cs) more = grind (arith, cases_Bool, nat_tests, fields-code)

-- so many of one more
fields-same : (n : ℕ) (t : List ℕ) → 1 ≤ n → fields n (fields (n + 1) t) ≡ fields n t
fields-same n [] some = refl
fields-same n (c ∷ cs) some = search (rules, arith, fields-same (n - 1) cs, fields-same n cs some)

-- which are longer, where so many are not all
fields-longer : (n : ℕ) (t : List ℕ) → 1 ≤ n → length (fields n t) < length t
    → length (fields n t) < length (fields (n + 1) t)
fields-longer n [] some more = absurd (omega arith)
fields-longer n (c ∷ cs) some more =
    grind (arith, cases_Bool, nat_tests, fields-longer (n - 1) cs, fields-longer n cs some)

-- ---- the first setting is its own first one

color-again : (t : List ℕ) (mode n : ℕ) → color_fields t mode ≡ n → n ≢ 0 → color_fields (fields n t) mode ≡ n
unfolding color_fields
color-again t mode n is some = grind (arith, cases_Bool, nat_tests, fields-same, fields-longer)

color-least : (t : List ℕ) (mode : ℕ) → color_fields t mode ≢ 0 → 2 ≤ color_fields t mode
unfolding color_fields
color-least t mode some = grind (arith, cases_Bool, nat_tests)

pub taken-again : (t : List ℕ) (n : ℕ) → n ≡ taken_fields t → n ≢ 0 → taken_fields (fields n t) ≡ n
unfolding taken_fields
taken-again t n is some =
    search (rules, arith, fields-code, fields-details, fields-colon, fields-mode, color-again, color-least)

pub first-again : (t : List ℕ) → first_setting (first_setting t) ≡ first_setting t
unfolding first_setting
first-again t = grind (arith, cases_Bool, nat_tests, taken-again, fields-again)

pub first-take : (t : List ℕ) → take (length (first_setting t)) t ≡ first_setting t
unfolding first_setting
first-take t = grind (arith, cases_Bool, nat_tests, fields-take, take_all)

pub first-len : (t : List ℕ) → length (first_setting t) ≤ length t
first-len t = omega (arith, ap length (first-take t), length-take (length (first_setting t)) t)

-- ---- characters that pass a test

pub take-all : (p : ℕ → Bool) (n : ℕ) (s : List ℕ) → list_all p s ≡ true → list_all p (take n s) ≡ true
take-all p n s all =
    list_all-from_AllPass p (take n s) (All-take (λ c. p c ≡ true) n s (AllPass-from_list_all p s all))

pub drop-all : (p : ℕ → Bool) (n : ℕ) (s : List ℕ) → list_all p s ≡ true → list_all p (drop n s) ≡ true
drop-all p n s all =
    list_all-from_AllPass p (drop n s) (All-drop (λ c. p c ≡ true) n s (AllPass-from_list_all p s all))

pub first-all : (p : ℕ → Bool) (t : List ℕ) → list_all p t ≡ true → list_all p (first_setting t) ≡ true
first-all p t all =
    subst (λ s. list_all p s ≡ true) (first-take t) (take-all p (length (first_setting t)) t all)

-- ---- all settings of parameters

past-drop : (n : ℕ) (t : List ℕ) → settings_past n t ≡ settings_past 0 (drop n t)
past-drop zero t = refl
past-drop (suc n) [] = refl
past-drop (suc n) (c ∷ cs) = past-drop n cs

pub settings-one : (s : List ℕ) → length s ≤ length (first_setting s) → settings s ≡ s ∷ []
settings-one s all =
    let n = length (first_setting s) in
    ap (λ ss. first_setting s ∷ ss) (past-drop n s ∙ ap (settings_past 0) (drop_all n s all))
    ∙ ap (λ f. f ∷ []) (sym (first-take s) ∙ take_all n s all)

pub settings-next : (s : List ℕ) → length (first_setting s) < length s
    → settings s ≡ first_setting s ∷ settings (drop (length (first_setting s) + 1) s)
settings-next s more =
    let n = length (first_setting s) in
    ap (λ ss. first_setting s ∷ ss) (past-drop n s ∙ ap (settings_past 0) (drop_more s n 0 more))

-- a setting by itself, of digits, colons and semicolons
pub record IsSetting (s : List ℕ) : Type 0 where
  pub own : first_setting s ≡ s
  pub range : list_all (is_in_range 0x30 0x3B) s ≡ true

past-each : (P : List ℕ → Type 0) (n : ℕ) (t : List ℕ) → ((k : ℕ) → P (first_setting (drop (suc k) t)))
    → All P (settings_past n t)
past-each P n [] each = All-nil P
past-each P zero (c ∷ cs) each =
    All-cons P (first_setting cs) (settings_past (length (first_setting cs)) cs) (each 0)
    (past-each P (length (first_setting cs)) cs (λ k. each (suc k)))
past-each P (suc n) (c ∷ cs) each = past-each P n cs (λ k. each (suc k))

-- what holds of the first setting wherever one may begin
pub each-setting : (P : List ℕ → Type 0) (t : List ℕ) → ((k : ℕ) → P (first_setting (drop k t)))
    → All P (settings t)
each-setting P t each = past-each P 0 (0x3B ∷ t) each

pub are-settings : (t : List ℕ) → list_all (is_in_range 0x30 0x3B) t ≡ true → All IsSetting (settings t)
are-settings t all = each-setting IsSetting t (λ k. search (rules, first-again, first-all, drop-all))

-- ---- texts between characters

pub between-some : (sign : ℕ) (t : List ℕ) → 1 ≤ length (between sign t)
between-some sign [] = omega arith
between-some sign (c ∷ cs) = grind (arith, cases_Bool, nat_tests, between-some sign cs)

texts-len : (c : ℕ) (texts : List (List ℕ)) → 1 ≤ length texts → length (with_first c texts) ≡ length texts
texts-len c [] some = absurd (omega arith)
texts-len c (t ∷ texts) some = refl

first-append : (c : ℕ) (xs ys : List (List ℕ)) → 1 ≤ length xs
    → with_first c (xs ++ ys) ≡ with_first c xs ++ ys
first-append c [] ys some = absurd (omega arith)
first-append c (t ∷ texts) ys some = refl

pub between-append : (a b : List ℕ) → between 0x3B (a ++ 0x3B ∷ b) ≡ between 0x3B a ++ between 0x3B b
between-append [] b = refl
between-append (c ∷ a) b = search (rules, arith, between-append a b, between-some, first-append)

pub fields-few : (n : ℕ) (t : List ℕ) → 1 ≤ n → fields n t ≡ t → length (between 0x3B t) ≤ n
fields-few n [] some all = omega arith
fields-few n (c ∷ cs) some all =
    search (rules, arith, fields-few n cs some, fields-few (n - 1) cs, texts-len, between-some)

pub fields-many : (n : ℕ) (t : List ℕ) → 1 ≤ n → length (fields n t) < length t → n < length (between 0x3B t)
fields-many n [] some more = absurd (omega arith)
fields-many n (c ∷ cs) some more =
    search (rules, arith, fields-many n cs some, fields-many (n - 1) cs, texts-len, between-some)

drop-past : (c : ℕ) (xs cs : List ℕ) → drop (length (c ∷ xs) + 1) (c ∷ cs) ≡ drop (length xs + 1) cs
drop-past c xs cs = grind (arith, cases_Bool, nat_tests)

-- a semicolon follows them, where they are not all
pub fields-split : (n : ℕ) (t : List ℕ) → length (fields n t) < length t
    → t ≡ fields n t ++ 0x3B ∷ drop (length (fields n t) + 1) t
fields-split n [] more = absurd (omega arith)
fields-split n (c ∷ cs) more =
    grind (arith, cases_Bool, nat_tests, fields-split n cs, fields-split (n - 1) cs, drop-past)

-- ---- the number that parameters begin with

abbrev pub first_text : List (List ℕ) → List ℕ
first_text [] = []
first_text (t ∷ texts) = t

pub first_text-first : (c : ℕ) (texts : List (List ℕ))
    → first_text (with_first c texts) ≡ c ∷ first_text texts
first_text-first c [] = refl
first_text-first c (t ∷ texts) = refl

pub text-cons : (sign c : ℕ) (t : List ℕ) → first_text (between sign (c ∷ t))
    ≡ cond (c == sign) [] (c ∷ first_text (between sign t))
text-cons sign c t = grind (arith, cases_Bool, first_text-first)

-- the field that parameters begin with
abbrev pub first_field : List ℕ → List ℕ
first_field t = first_text (between 0x3B t)

abbrev pub InRange : List ℕ → Type 0
InRange t = list_all (is_in_range 0x30 0x3B) t ≡ true

digits-first : (t : List ℕ) → InRange t
    → take_while is_ascii_digit t ≡ first_text (between 0x3A (first_field t))
digits-first [] all = refl
digits-first (c ∷ cs) all =
    let cons = take_while-cons is_ascii_digit c cs in
    let rest = digits-first cs in
    grind (arith, cases_Bool, nat_tests, cons, text-cons 0x3B c cs, text-cons 0x3A c (first_field cs), rest)

pub first-value : (texts : List (List ℕ))
    → first_of (map (digits_value 10) texts) ≡ digits_value 10 (first_text texts)
first-value [] = refl
first-value (t ∷ texts) = refl

-- the first number of the first field
abbrev pub first_number : List ℕ → ℕ
first_number t = first_of (numbers_of (first_field t))

pub code-first : (t : List ℕ) → InRange t → code t ≡ min 255 (first_number t)
unfolding code
code-first t all = grind (arith, cases_Bool, nat_tests, digits-first, first-value)

-- ---- colons, and what follows a number without

abbrev pub has_colon : List ℕ → Bool
has_colon t = starts_with nat_eq (details t) (codes ":")

pub colon-first : (t : List ℕ) → InRange t → has_colon t ≡ not (length (between 0x3A (first_field t)) == 1)
colon-first [] all = ap (λ l. starts_with nat_eq l (codes ":")) details-nil
colon-first (c ∷ cs) all =
    let some = between-some 0x3A (first_field cs) in
    grind (arith, cases_Bool, nat_tests, colon-first cs, details-cons, first_text-first, some, texts-len)

pub between-rest : (t : List ℕ) → InRange t → has_colon t ≡ false → 1 < length (between 0x3B t)
    → between 0x3B t ≡ first_field t ∷ between 0x3B (drop 1 (details t))
between-rest [] all none more = absurd (omega arith)
between-rest (c ∷ cs) all none more =
    let len = texts-len c (between 0x3B cs) (between-some 0x3B cs) in
    grind (arith, cases_Bool, nat_tests, between-rest cs, details-cons, len)
