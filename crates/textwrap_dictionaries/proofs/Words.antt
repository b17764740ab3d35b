-- Words of dictionaries that are written, as they are read.
use Rattle.std.proofs.lemmas.List.Folds.{list_any_none}
use Rattle.textwrap_dictionaries.proofs.Said.{hyphen-here, letter-here, places-are}
use Rattle.textwrap_dictionaries.specs.Dictionaries.{IsException, IsPattern, hyphened, is_bare, is_plain}
use Rattle.textwrap_dictionaries.specs.{Dictionaries.pattern_line, Entries.Pattern, Entries.Exception}
use Rattle.textwrap_dictionaries.specs.Entries.{has_digit, has_hyphen, has_sign, has_slash, hyphens_past}
use Rattle.textwrap_dictionaries.specs.Entries.{is_exception, is_hyphen_sign, is_sign, letters_between, word_said}
use Rattle.textwrap_dictionaries.specs.declared.entries.Section.{Section, TheVariants.Listing}
use Rattle.textwrap_patterns.proofs.{Ascii.each-of, WrittenPatterns.letters-digit, WrittenPatterns.letters-letter}
use Rattle.textwrap_patterns.specs.{Letters.folded, Listed.ExceptionText, Listed.PatternText, Places.IsNextPlace}
use Rattle.textwrap_patterns.specs.Written.{is_digit, letters_written, levels_written}
use Rattle.textwrap_text.proofs.Common.{◌==◌, ◌&&◌, ◌||◌, not, nat_lt, All-weaker, and_parts, eqb-false, eqb-true}
use Rattle.textwrap_text.proofs.Common.{le-ltb, ltb-true, scalar, All, All-cons, All-head, All-nil, All-tail}
use Rattle.textwrap_text.proofs.Common.{Bool, List, [], ap, arith, cases_Bool, false, false≢true, inl, inr}
use Rattle.textwrap_text.proofs.Common.{length, refl, suc, sym, true, ⊤, ℕ, ◌+◌, ◌<◌, ◌∙◌, ◌∷◌, ◌≡◌, ◌≤◌}
use Rattle.textwrap_words.proofs.Common.{AreNext}

-- ---- characters

-- a character that a word may have which is written
abbrev pub is_shown : ℕ → Bool
is_shown c = scalar c && not ((c == 0x2F) || is_sign c)

abbrev pub AreShown : List ℕ → Type 0
AreShown cs = All (λ c. is_shown c ≡ true) cs

neither : (a b : Bool) → not (a || b) ≡ true → (a ≡ false) × (b ≡ false)
neither false false is = (refl, refl)
neither false true is = absurd (false≢true is)
neither true b is = absurd (false≢true is)

pub record Plain (c : ℕ) : Type 0 where
  pub scalar : scalar c ≡ true
  pub same : folded c ≡ c
  pub digit : is_digit c ≡ false
  pub slash : (c == 0x2F) ≡ false
  pub sign : is_sign c ≡ false

plain : (c : ℕ) → is_plain c ≡ true → Plain c
plain c is =
    let all = and_parts ((scalar c && true) && (folded c == c)) (not (is_digit c || ((c == 0x2F) || is_sign c))) is in
    let front = and_parts (scalar c && true) (folded c == c) all.0 in
    let back = neither (is_digit c) ((c == 0x2F) || is_sign c) all.1 in
    let last = neither (c == 0x2F) (is_sign c) (rw back.1 refl) in
    record {
      scalar = (and_parts (scalar c) true front.0).0;
      same = eqb-true (folded c) c front.1;
      digit = back.0;
      slash = last.0;
      sign = last.1;
    }

pub plain-shown : (c : ℕ) → is_plain c ≡ true → is_shown c ≡ true
plain-shown c is = let p = plain c is in rw (p.scalar, p.slash, p.sign) refl

pub shown-parts : (c : ℕ) → is_shown c ≡ true → (scalar c ≡ true) × ((c == 0x2F) ≡ false) × (is_sign c ≡ false)
shown-parts c is = grind (arith, and_parts, scalar, neither)

-- that of a level
pub digit-is : (level : ℕ) → nat_lt level 10 ≡ true
    → (is_shown (level + 0x30) ≡ true) × (is_digit (level + 0x30) ≡ true)
digit-is level lt = grind (arith, and_parts, each-of, ltb-true)

-- ---- patterns

abbrev ArePlain : List ℕ → Type 0
ArePlain cs = All (λ c. is_plain c ≡ true) cs

abbrev AreLevels : List ℕ → Type 0
AreLevels levels = All (λ level. nat_lt level 10 ≡ true) levels

-- what stands before the rest of a pattern: a level, and a letter
level-here : (level c : ℕ) (rest : List ℕ) → is_digit (level + 0x30) ≡ true → Plain c
    → (letters_written ((level + 0x30) ∷ c ∷ rest) ≡ c ∷ letters_written rest)
    × (levels_written ((level + 0x30) ∷ c ∷ rest) ≡ level ∷ levels_written rest)
level-here level c rest digit p = grind (arith, letters-digit, digit, letters-letter)

last-level : (level : ℕ) → is_digit (level + 0x30) ≡ true
    → (letters_written ((level + 0x30) ∷ []) ≡ []) × (levels_written ((level + 0x30) ∷ []) ≡ level ∷ [])
last-level level digit = rw digit (refl, ap (λ n. n ∷ []) (omega arith))

pattern-read : (levels letters : List ℕ) → ArePlain letters → AreLevels levels
    → length levels ≡ length letters + 1
    → (letters_written (pattern_line levels letters) ≡ letters)
    × (levels_written (pattern_line levels letters) ≡ levels)
pattern-read [] letters are digits each = absurd (omega (arith, each))
pattern-read (level ∷ []) [] are digits each =
    last-level level (digit-is level (All-head (λ n. nat_lt n 10 ≡ true) level [] digits)).1
pattern-read (level ∷ next ∷ levels) [] are digits each = absurd (omega (arith, each))
pattern-read (level ∷ levels) (c ∷ cs) are digits each =
    let here = level-here level c (pattern_line levels cs)
    (digit-is level (All-head (λ n. nat_lt n 10 ≡ true) level levels digits)).1
    (plain c (All-head (λ d. is_plain d ≡ true) c cs are)) in
    let rest = pattern-read levels cs (All-tail (λ d. is_plain d ≡ true) c cs are)
    (All-tail (λ n. nat_lt n 10 ≡ true) level levels digits) (omega (arith, each)) in
    (here.0 ∙ ap (λ l. c ∷ l) rest.0, here.1 ∙ ap (λ l. level ∷ l) rest.1)

pattern-shown : (levels letters : List ℕ) → ArePlain letters → AreLevels levels
    → AreShown (pattern_line levels letters)
pattern-shown [] letters are digits = All-weaker (λ c. is_plain c ≡ true) (λ c. is_shown c ≡ true) plain-shown letters are
pattern-shown (level ∷ levels) [] are digits = All-cons (λ c. is_shown c ≡ true) (level + 0x30) []
    (digit-is level (All-head (λ n. nat_lt n 10 ≡ true) level levels digits)).0 (All-nil (λ c. is_shown c ≡ true))
pattern-shown (level ∷ levels) (c ∷ cs) are digits =
    All-cons (λ c. is_shown c ≡ true) (level + 0x30) (c ∷ pattern_line levels cs)
    (digit-is level (All-head (λ n. nat_lt n 10 ≡ true) level levels digits)).0
    (All-cons (λ c. is_shown c ≡ true) c (pattern_line levels cs)
    (plain-shown c (All-head (λ d. is_plain d ≡ true) c cs are))
    (pattern-shown levels cs (All-tail (λ d. is_plain d ≡ true) c cs are)
    (All-tail (λ n. nat_lt n 10 ≡ true) level levels digits)))

pub pattern-is-shown : (p : PatternText) → IsPattern p → AreShown (pattern_line p.levels p.letters)
pattern-is-shown p is = pattern-shown p.levels p.letters is.plain is.digits

pub pattern-some : (levels letters : List ℕ) → 0 < length levels → 0 < length (pattern_line levels letters)
pattern-some [] letters some = absurd (omega (arith, some))
pattern-some (level ∷ levels) [] some = omega arith
pattern-some (level ∷ levels) (c ∷ cs) some = omega arith

digited : (levels letters : List ℕ) → AreLevels levels → 0 < length levels
    → has_digit (pattern_line levels letters) ≡ true
digited [] letters digits some = absurd (omega (arith, some))
digited (level ∷ levels) [] digits some = grind (arith, digit-is, All-head)
digited (level ∷ levels) (c ∷ cs) digits some = grind (arith, digit-is, All-head)

and-false : (b : Bool) → (b && false) ≡ false
and-false false = refl
and-false true = refl

-- each pattern that is written has a digit
pub pattern-listed : (p : PatternText) → IsPattern p
    → is_exception Listing (pattern_line p.levels p.letters) ≡ false
pattern-listed p is = grind (arith, digited, and-false)

-- ---- words

no-slash : (cs : List ℕ) → AreShown cs → has_slash cs ≡ false
no-slash cs are = grind (arith, list_any_none, All-weaker, shown-parts)

no-sign : (cs : List ℕ) → AreShown cs → has_sign cs ≡ false
no-sign cs are = grind (arith, list_any_none, All-weaker, shown-parts)

pub pattern-is-said : (section : Section) (p : PatternText) → IsPattern p
    → is_exception section (pattern_line p.levels p.letters) ≡ false
    → word_said section (pattern_line p.levels p.letters) ≡ Pattern p
pattern-is-said section p is none =
    rw (no-sign line shown, no-slash line shown, none, ap length read.0, le-ltb 255 (length p.letters) is.few)
    (ap (λ l. Pattern (record { letters = l; levels = levels_written line })) read.0
    ∙ ap (λ l. Pattern (record { letters = p.letters; levels = l })) read.1)
  where
    line : List ℕ
    line = pattern_line p.levels p.letters

    shown : AreShown line
    shown = pattern-shown p.levels p.letters is.plain is.digits

    read : (letters_written line ≡ p.letters) × (levels_written line ≡ p.levels)
    read = pattern-read p.levels p.letters is.plain is.digits is.each

-- ---- exceptions

pub record Bare (c : ℕ) : Type 0 where
  pub plain : Plain c
  pub hyphen : is_hyphen_sign c ≡ false
  pub hash : (c == 0x23) ≡ false

pub bare : (c : ℕ) → is_bare c ≡ true → Bare c
bare c is =
    let both = and_parts (is_plain c) (not (is_hyphen_sign c || (c == 0x23))) is in
    let back = neither (is_hyphen_sign c) (c == 0x23) both.1 in
    record { plain = plain c both.0; hyphen = back.0; hash = back.1 }

abbrev AreBare : List ℕ → Type 0
AreBare cs = All (λ c. is_bare c ≡ true) cs

letters-read : (n : ℕ) (cs : List ℕ) → AreBare cs
    → (hyphens_past n cs ≡ []) × (letters_between cs ≡ cs)
letters-read n [] are = (refl, refl)
letters-read n (c ∷ cs) are =
    let b = bare c (All-head (λ d. is_bare d ≡ true) c cs are) in
    let here = letter-here n c cs b.hyphen in
    let rest = letters-read (suc n) cs (All-tail (λ d. is_bare d ≡ true) c cs are) in
    (here.0 ∙ rest.0, here.1 ∙ ap (λ d. d ∷ letters_between cs) b.plain.same ∙ ap (λ l. c ∷ l) rest.1)

-- no place was passed
abbrev IsAhead : ℕ → List ℕ → Type 0
IsAhead n [] = ⊤
IsAhead n (place ∷ places) = n ≤ place

ahead : (len n place : ℕ) (places : List ℕ) → place ≡ n → AreNext (IsNextPlace len) places place
    → IsAhead (suc n) places
ahead len n place [] is inner = tt
ahead len n place (next ∷ places) is inner = omega (arith, inner.0.0, is)

exception-read : (len n last : ℕ) (places cs : List ℕ) → AreBare cs → len ≡ n + length cs
    → AreNext (IsNextPlace len) places last → IsAhead n places
    → (hyphens_past n (hyphened n places cs) ≡ places) × (letters_between (hyphened n places cs) ≡ cs)
exception-read len n last [] cs are all inner before = letters-read n cs are
exception-read len n last (place ∷ places) [] are all inner before = grind arith
exception-read len n last (place ∷ places) (c ∷ cs) are all inner before = elim (cases_Bool (place == n)) [
  | inl here ↦ rw here (
      let at = eqb-true place n here in
      let rest = exception-read len (suc n) place places cs bares (omega (arith, all)) inner.1
      (ahead len n place places at inner.1) in
      let hyphen = hyphen-here n 0x2D (c ∷ hyphened (suc n) places cs) refl in
      let letter = letter-here n c (hyphened (suc n) places cs) b.hyphen in (
        hyphen.0 ∙ ap (λ l. n ∷ l) (letter.0 ∙ rest.0) ∙ ap (λ m. m ∷ places) (sym at),
        hyphen.1 ∙ letter.1 ∙ ap (λ d. d ∷ letters_between (hyphened (suc n) places cs)) b.plain.same
            ∙ ap (λ l. c ∷ l) rest.1,
      ))
  | inr other ↦ rw other (
      let rest = exception-read len (suc n) last (place ∷ places) cs bares (omega (arith, all)) inner
      (omega (arith, before, eqb-false place n other)) in
      let letter = letter-here n c (hyphened (suc n) (place ∷ places) cs) b.hyphen in (
        letter.0 ∙ rest.0,
        letter.1
            ∙ ap (λ d. d ∷ letters_between (hyphened (suc n) (place ∷ places) cs)) b.plain.same
            ∙ ap (λ l. c ∷ l) rest.1,
      ))
]
  where
    b : Bare c
    b = bare c (All-head (λ d. is_bare d ≡ true) c cs are)

    bares : AreBare cs
    bares = All-tail (λ d. is_bare d ≡ true) c cs are

-- what holds of a hyphen and of the letters holds of each character
all-hyphened : (P : ℕ → Type 0) (n : ℕ) (places cs : List ℕ) → P 0x2D → All P cs → All P (hyphened n places cs)
all-hyphened P n [] cs hyphen are = are
all-hyphened P n (place ∷ places) [] hyphen are = All-nil P
all-hyphened P n (place ∷ places) (c ∷ cs) hyphen are = elim (cases_Bool (place == n)) [
  | inl here ↦ rw here (All-cons P 0x2D (c ∷ hyphened (suc n) places cs) hyphen
      (All-cons P c (hyphened (suc n) places cs) (All-head P c cs are)
      (all-hyphened P (suc n) places cs hyphen (All-tail P c cs are))))
  | inr other ↦ rw other (All-cons P c (hyphened (suc n) (place ∷ places) cs) (All-head P c cs are)
      (all-hyphened P (suc n) (place ∷ places) cs hyphen (All-tail P c cs are)))
]

pub exception-shown : (e : ExceptionText) → IsException e → AreShown (hyphened 0 e.places e.letters)
exception-shown e is = all-hyphened (λ c. is_shown c ≡ true) 0 e.places e.letters refl
    (All-weaker (λ c. is_bare c ≡ true) (λ c. is_shown c ≡ true)
    (λ c b. plain-shown c (and_parts (is_plain c) (not (is_hyphen_sign c || (c == 0x23))) b).0) e.letters is.bare)

pub exception-undigited : (e : ExceptionText) → IsException e → has_digit (hyphened 0 e.places e.letters) ≡ false
exception-undigited e is = list_any_none is_digit (hyphened 0 e.places e.letters)
    (all-hyphened (λ c. is_digit c ≡ false) 0 e.places e.letters refl
    (All-weaker (λ c. is_bare c ≡ true) (λ c. is_digit c ≡ false) (λ c b. (bare c b).plain.digit) e.letters is.bare))

all-ahead : (places : List ℕ) → IsAhead 0 places
all-ahead [] = tt
all-ahead (place ∷ places) = omega arith

exception-parts : (e : ExceptionText) → IsException e
    → (hyphens_past 0 (hyphened 0 e.places e.letters) ≡ e.places)
    × (letters_between (hyphened 0 e.places e.letters) ≡ e.letters)
exception-parts e is = exception-read (length e.letters) 0 0 e.places e.letters is.bare (omega arith) is.inner
    (all-ahead e.places)

unhyphened : (n : ℕ) (cs : List ℕ) → has_hyphen cs ≡ false → hyphens_past n cs ≡ []
unhyphened n [] none = refl
unhyphened n (c ∷ cs) none = grind (arith, unhyphened (suc n) cs)

pub exception-hyphened : (e : ExceptionText) → IsException e → has_hyphen (hyphened 0 e.places e.letters) ≡ true
exception-hyphened e is = elim (cases_Bool (has_hyphen (hyphened 0 e.places e.letters))) [
  | inl some ↦ some
  | inr none ↦ absurd (omega (
    arith,
    is.some,
    ap length (sym (exception-parts e is).0
        ∙ unhyphened 0 (hyphened 0 e.places e.letters) none),
  ))
]

pub hyphened-some : (cs : List ℕ) → has_hyphen cs ≡ true → 0 < length cs
hyphened-some [] is = absurd (false≢true is)
hyphened-some (c ∷ cs) is = omega arith

pub exception-is-said : (section : Section) (e : ExceptionText) → IsException e
    → is_exception section (hyphened 0 e.places e.letters) ≡ true
    → word_said section (hyphened 0 e.places e.letters) ≡ Exception e
exception-is-said section e is all = rw (
  no-sign line shown,
  no-slash line shown,
  all,
  read.0,
  read.1,
  places-are (length e.letters) 0 e.places is.inner,
) refl
  where
    line : List ℕ
    line = hyphened 0 e.places e.letters

    shown : AreShown line
    shown = exception-shown e is

    read : (hyphens_past 0 line ≡ e.places) × (letters_between line ≡ e.letters)
    read = exception-parts e is
