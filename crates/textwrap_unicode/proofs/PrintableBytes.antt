-- The classes of printable bytes, what the rules say between them, and what stands before a place,
-- also before blanks.
use Rattle.std.{proofs.lemmas.Bool.agree_below, proofs.lemmas.Bool.or_right, specs.Prelude.bit_and}
use Rattle.std.proofs.lemmas.Bool.{agree_below_at}
use Rattle.textwrap_text.{proofs.Common.list_any, specs.declared.ascii.TheConstants.CLASSES}
use Rattle.textwrap_text.proofs.ClassLemmas.{agree, agree-same, ascii_class, past-first}
use Rattle.textwrap_text.proofs.ClassNames.{cases_Bool, if◌then◌else◌, is_after_text, slice_index_or}
use Rattle.textwrap_text.proofs.ClassNames.{Ambiguous, and_parts, false, is_opening, nat_tests, ℕ}
use Rattle.textwrap_text.proofs.ClassNames.{add-one, class_of, is_blank, is_mark, is_space, unit_of}
use Rattle.textwrap_text.proofs.ClassNames.{Bool, List, arith, get_or, length, nat_lt, subst}
use Rattle.textwrap_text.proofs.ClassNames.{inl, inr, not, refl, take, true, zero, ◌&&◌, ◌==◌, ◌||◌}
use Rattle.textwrap_text.proofs.ClassNames.{[], ap, suc, sym, ◌+◌, ◌-◌, ◌<◌, ◌∙◌, ◌∷◌, ◌≡◌, ◌≤◌}
use Rattle.textwrap_text.specs.ClassSets.{is_hebrew, is_regional_indicator, is_zwj}
use Rattle.textwrap_text.proofs.Common.{IsPrintable, IsPrintableByte, get_or-drop, length-take-le}
use Rattle.textwrap_text.proofs.Common.{eqb-true, get_or-take, length-drop, trimmed_len}
use Rattle.textwrap_text.proofs.Common.{add-zero, list_all}
use Rattle.textwrap_unicode.proofs.Common.{class_past_blanks, is_any_hyphen, is_unusual, nothing}
use Rattle.textwrap_unicode.proofs.Common.{Before, and, before_of, decide, may_end, not-true}
use Rattle.textwrap_unicode.proofs.WordVerdicts.{ascii-is, unit_with}
use Rattle.textwrap_unicode.specs.Pairs.{behind_classes, is_cut_behind, may_follow_blanks}
use Rattle.textwrap_text.specs.ClassSets.{is_affix, is_letter, is_number}
use Rattle.textwrap_unicode.specs.declared.pairs.TheConstants.{KINDS, UNUSUAL_AFTER}
use Rattle.textwrap_words.proofs.Word.Texts.{final_blanks-blank, trimmed-other}
use Rattle.unicode.proofs.LineBreakLemmas.{line_break_number_injective}
use Rattle.unicode.specs.{LineBreak.line_break_number, declared.properties.LineBreak.LineBreak}
use Rattle.unicode.specs.declared.properties.LineBreak.TheVariants.{ClosePunctuation, PrefixNumeric}
use Rattle.unicode.specs.declared.properties.LineBreak.TheVariants.{OpenPunctuation, PostfixNumeric}
use Rattle.unicode.specs.declared.properties.LineBreak.TheVariants.{CloseParenthesis, InfixNumeric}
use Rattle.unicode.specs.declared.properties.LineBreak.TheVariants.{Alphabetic, BreakAfter, Numeric}
use Rattle.unicode.specs.declared.properties.LineBreak.TheVariants.{BreakSymbols, Hyphen, Unknown}
use Rattle.unicode.specs.declared.properties.LineBreak.TheVariants.{Exclamation, Quotation, Space}

-- ---- the classes

abbrev pub printable_classes : List LineBreak
printable_classes =
    Space ∷ Exclamation ∷ Quotation ∷ Alphabetic ∷ PrefixNumeric ∷ PostfixNumeric ∷ OpenPunctuation
    ∷ CloseParenthesis ∷ ClosePunctuation ∷ InfixNumeric ∷ Hyphen ∷ BreakSymbols ∷ Numeric
    ∷ BreakAfter ∷ []

abbrev same_class : LineBreak → LineBreak → Bool
same_class v w = line_break_number v == line_break_number w

abbrev pub is_among : List LineBreak → LineBreak → Bool
is_among classes v = list_any (same_class v) classes

-- what passes for each of these classes
pub passes-among : (p : LineBreak → Bool) (classes : List LineBreak) → list_all p classes ≡ true
    → (v : LineBreak) → is_among classes v ≡ true → p v ≡ true
passes-among p [] all v inside = cc
passes-among p (w ∷ classes) all v inside =
    let (here, others) = and_parts (p w) (list_all p classes) all in
    let among = passes-among p classes others v in
    grind (arith, cases_Bool, line_break_number_injective, eqb-true, among)

-- HY
abbrev pub is_hyphen_class : LineBreak → Bool
is_hyphen_class Hyphen = true
is_hyphen_class class = false

-- the bit of its kind in the table
abbrev pub kind_of : LineBreak → ℕ
kind_of class =
    if is_space class then 1 else if is_after_text class then 2 else if is_letter class then 4
    else if is_affix class then 8 else if is_opening class then 16
    else if is_number class then 32 else 0

-- the kinds that are unusual behind it
abbrev pub unusual_after : LineBreak → ℕ
unusual_after Exclamation = 60
unusual_after BreakAfter = 60
unusual_after CloseParenthesis = 16
unusual_after ClosePunctuation = 52
unusual_after InfixNumeric = 24
unusual_after BreakSymbols = 28
unusual_after class =
    if is_space class then 18 else if is_affix class then 8 else if is_opening class then 1 else 0

-- ---- the bytes

pub record IsTold (c : ℕ) : Type 0 where
  pub class : is_among printable_classes (class_of c) ≡ true
  pub hyphen : is_any_hyphen c ≡ is_hyphen_class (class_of c)
  pub blank : is_blank c ≡ is_space (class_of c)
  pub kind : slice_index_or KINDS c 0 ≡ kind_of (class_of c)
  pub unusual : slice_index_or UNUSUAL_AFTER c 0 ≡ unusual_after (class_of c)

abbrev is_told : ℕ → LineBreak → Bool
is_told c v =
    is_among printable_classes v && agree (is_any_hyphen c) (is_hyphen_class v)
    && agree (is_blank c) (is_space v) && (slice_index_or KINDS c 0 == kind_of v)
    && (slice_index_or UNUSUAL_AFTER c 0 == unusual_after v)

all-told : agree_below (λ c. nat_lt c 32 || is_told c (slice_index_or CLASSES c Ambiguous))
    (λ c. true) 127 ≡ true
all-told = refl

pub told : (c : ℕ) → IsPrintableByte c → IsTold c
told c (low, high) =
    let all : is_told c (class_of c) ≡ true =
    subst (λ v. is_told c v ≡ true) (ascii_class c (omega arith))
    (past-first (nat_lt c 32) _ (grind (arith, nat_tests))
    (agree_below_at (λ x. nat_lt x 32 || is_told x (slice_index_or CLASSES x Ambiguous)) (λ x. true)
    127 c all-told high)) in
    let (kinds, unusual) = and_parts _ _ all in
    let (blanks, kind) = and_parts _ _ kinds in
    let (first, blank) = and_parts _ _ blanks in
    let (class, hyphen) = and_parts _ _ first in
    record {
      class = class;
      hyphen = agree-same _ _ hyphen;
      blank = agree-same _ _ blank;
      kind = eqb-true _ _ kind;
      unusual = eqb-true _ _ unusual;
    }

-- ---- by classes

abbrev pub cut_behind : LineBreak → LineBreak → LineBreak → Bool
cut_behind past first next =
    not (is_hyphen_class first) && may_end (decide (behind_classes past first) (unit_with next))

abbrev unusual_behind : LineBreak → LineBreak → Bool
unusual_behind first next =
    if is_space first then is_after_text next || is_opening next
    else (is_opening first && is_space next) || cut_behind first first next

-- what passes for each two of them
passes-pairs : (p : LineBreak → LineBreak → Bool) (classes : List LineBreak)
    → list_all (λ v. list_all (p v) printable_classes) classes ≡ true → (v w : LineBreak)
    → is_among classes v ≡ true → is_among printable_classes w ≡ true → p v w ≡ true
passes-pairs p classes all v w first next =
    passes-among (p v) printable_classes
    (passes-among (λ x. list_all (p x) printable_classes) classes all v first) w next

-- the tables have what is unusual
bits-unusual : (v w : LineBreak) → is_among printable_classes v ≡ true
    → is_among printable_classes w ≡ true
    → not (bit_and (unusual_after v) (kind_of w) == 0) ≡ unusual_behind v w
bits-unusual v w first next =
    agree-same _ _
    (passes-pairs
    (λ x y. agree (not (bit_and (unusual_after x) (kind_of y) == 0)) (unusual_behind x y))
    printable_classes refl v w first next)

-- behind a byte that is no blank the text is cut at what is unusual, but for a blank
cut-words : (v w : LineBreak) → is_among printable_classes v ≡ true
    → is_among printable_classes w ≡ true → is_space v ≡ false
    → cut_behind v v w ≡ not (is_space w) && unusual_behind v w
cut-words v w first next other =
    agree-same _ _
    (past-first (is_space v) _ other
    (passes-pairs
    (λ x y. is_space x || agree (cut_behind x x y) (not (is_space y) && unusual_behind x y))
    printable_classes refl v w first next))

-- the classes before blanks, XX at the start
abbrev pub past_classes : List LineBreak
past_classes = Unknown ∷ printable_classes

cut-blanks : (past w : LineBreak) → is_among past_classes past ≡ true
    → is_among printable_classes w ≡ true
    → cut_behind past Space w ≡ not (is_space w) && may_follow_blanks past w
cut-blanks past w first next =
    agree-same _ _
    (passes-pairs (λ x y. agree (cut_behind x Space y) (not (is_space y) && may_follow_blanks x y))
    past_classes refl past w first next)

-- ---- by bytes

pub cut-classes : (past : LineBreak) (b c : ℕ) → IsPrintableByte b → IsPrintableByte c
    → is_cut_behind past b c ≡ cut_behind past (class_of b) (class_of c)
cut-classes past b c first next = grind (arith, (told b first).hyphen, ascii-is)

unusual-classes : (b c : ℕ) → IsPrintableByte b → IsPrintableByte c
    → unusual_behind (class_of b) (class_of c) ≡ is_unusual b c
unusual-classes b c first next = grind (arith, cut-classes)

pub unusual_bits : (b c : ℕ) → IsPrintableByte b → IsPrintableByte c
    → not (bit_and (slice_index_or UNUSUAL_AFTER b 0) (slice_index_or KINDS c 0) == 0)
    ≡ is_unusual b c
unusual_bits b c first next =
    let one = told b first in
    let other = told c next in
    rw (one.unusual, other.kind)
    (bits-unusual (class_of b) (class_of c) one.class other.class ∙ unusual-classes b c first next)

pub class-space : (v : LineBreak) → is_space v ≡ true → v ≡ Space
class-space Space e = refl
class-space v e = cc

-- a text is cut behind a byte that is no blank where that is unusual, and behind blanks by what stands
-- before them
pub cut-behind : (past : LineBreak) (b c : ℕ) → IsPrintableByte b → IsPrintableByte c
    → is_among past_classes past ≡ true → (is_blank b ≡ false → past ≡ class_of b)
    → is_cut_behind past b c
    ≡ not (is_blank c) && (if is_blank b then may_follow_blanks past (class_of c) else is_unusual b c)
cut-behind past b c first next among word =
    let one = told b first in
    let other = told c next in
    let blanks = cut-blanks past (class_of c) among other.class in
    let words = cut-words (class_of b) (class_of c) one.class other.class in
    elim (cases_Bool (is_blank b)) [
      | inl blank ↦
          let space = class-space (class_of b) (sym one.blank ∙ blank) in
          rw (blank, other.blank) (cut-classes past b c first next ∙ rw space blanks)
      | inr none ↦
          rw (none, other.blank, word none) (cut-classes (class_of b) b c first next
          ∙ rw (← unusual-classes b c first next) (words (sym one.blank ∙ none)))
    ]

-- a blank is unusual behind what opens alone
pub unusual-space : (b c : ℕ) → IsPrintableByte b → IsPrintableByte c → is_blank c ≡ true
    → is_unusual b c ≡ is_opening (class_of b)
unusual-space b c first next blank =
    sym (unusual-classes b c first next)
    ∙ ap (unusual_behind (class_of b)) (class-space (class_of c) (sym (told c next).blank ∙ blank))
    ∙ agree-same _ _ (passes-among (λ v. agree (unusual_behind v Space) (is_opening v))
    printable_classes refl (class_of b) (told b first).class)

-- ---- what stands before a place of a printable text: the class of the last byte, and that of
-- the last that is no blank

-- the rules by pairs do not ask whether a number stands before a place
abbrev pub with_numbers : Before → Bool → Bool → Before
with_numbers before inside past = record before { is_in_number = inside; is_past_number = past }

pub record IsBehind (past first : LineBreak) (before : Before) : Type 0 where
  pub inside : Bool
  pub number : Bool
  pub is : before ≡ with_numbers (behind_classes past first) inside number

none-has : (has : LineBreak → Bool) → list_all (λ v. not (has v)) printable_classes ≡ true
    → (v : LineBreak) → is_among printable_classes v ≡ true → has v ≡ false
none-has has none v class =
    not-true (has v) (passes-among (λ v. not (has v)) printable_classes none v class)

module _ (next : LineBreak) (class : is_among printable_classes next ≡ true) where
  mark : is_mark next ≡ false
  mark = none-has is_mark refl next class

  joiner : is_zwj next ≡ false
  joiner = none-has is_zwj refl next class

  flag : is_regional_indicator next ≡ false
  flag = none-has is_regional_indicator refl next class

  unit-behind : (past first : LineBreak) (inside number : Bool) → is_hebrew first ≡ false
      → IsBehind (if is_space next then past else next) next
      (and (with_numbers (behind_classes past first) inside number) (unit_with next))
  unit-behind past first inside number plain = grind (arith, mark, joiner, flag)

  unit-first : IsBehind (if is_space next then Unknown else next) next
      (and (before_of nothing) (unit_with next))
  unit-first = grind (arith, mark, joiner, flag)

pub byte-step : (past : LineBreak) (b c : ℕ) (before : Before) → IsBehind past (class_of b) before
    → IsPrintableByte b → IsPrintableByte c
    → IsBehind (if is_space (class_of c) then past else class_of c) (class_of c)
    (and before (unit_of c))
byte-step past b c before h first next =
    let step = unit-behind (class_of c) (told c next).class past (class_of b) h.inside h.number
    (none-has is_hebrew refl (class_of b) (told b first).class) in
    grind (arith, ascii-is, h.is, step)

pub byte-first : (b : ℕ) → IsPrintableByte b
    → IsBehind (if is_space (class_of b) then Unknown else class_of b) (class_of b)
    (and (before_of nothing) (unit_of b))
byte-first b first =
    grind (arith, ascii-is, unit-first (class_of b) (told b first).class)

pub past-more : (text : List ℕ) (n c : ℕ) → get_or text n 0 ≡ c → class_past_blanks text (n + 1)
    ≡ (if is_space (class_of c) then class_past_blanks text n else class_of c)
past-more text n c here = rw (add-one n, ← here) refl

-- ---- the class of the last byte before blanks

module _ (text : List ℕ) (printable : IsPrintable text) where
  pub space-at : (k : ℕ) → k < length text
      → is_space (class_of (get_or text k 0)) ≡ is_blank (get_or text k 0)
  space-at k inside = sym (told (get_or text k 0) (printable k 0 inside)).blank

  -- behind a byte that is no blank
  pub past-byte : (k : ℕ) → k < length text → is_blank (get_or text k 0) ≡ false
      → class_past_blanks text (suc k) ≡ class_of (get_or text k 0)
  past-byte k inside other = rw (space-at k inside ∙ other) refl

  pub past-blank : (k : ℕ) → k < length text → is_blank (get_or text k 0) ≡ true
      → class_past_blanks text (suc k) ≡ class_past_blanks text k
  past-blank k inside blank = rw (space-at k inside ∙ blank) refl

  -- behind blanks
  past-blanks : (end n : ℕ) → end + n ≤ length text
      → ((k : ℕ) → end ≤ k → k < end + n → is_blank (get_or text k 0) ≡ true)
      → class_past_blanks text (end + n) ≡ class_past_blanks text end
  past-blanks end zero within blanks = ap (class_past_blanks text) (add-zero end)
  past-blanks end (suc n) within blanks =
      let next : end + suc n ≡ suc (end + n) = omega arith in
      let last = blanks (end + n) (omega arith) (omega arith) in
      rw (next, past-blank (end + n) (omega (arith, within)) last)
      (past-blanks end n (omega (arith, within)) (λ k from below. blanks k from (omega
      (arith, below))))

  pub past-among : (n : ℕ) → n ≤ length text
      → is_among past_classes (class_past_blanks text n) ≡ true
  past-among zero within = refl
  past-among (suc n) within =
      elim (cases_Bool (is_blank (get_or text n 0))) [
        | inl blank ↦ rw (past-blank n within blank) (past-among n (omega (arith, within)))
        | inr other ↦ rw (past-byte n within other)
            (or_right _ _ (told (get_or text n 0) (printable n 0 within)).class)
      ]

  -- ---- the blanks at the end of what comes before a place

  module _ (place : ℕ) (within : place ≤ length text) where
    abbrev end : ℕ
    end = trimmed_len (take place text)

    long : length (take place text) ≡ place
    long = length-take-le place text within

    end-past : class_past_blanks text place ≡ class_past_blanks text end
    end-past =
        let blanks = final_blanks-blank (take place text) in
        let all : end + (place - end) ≡ place = omega (arith, long) in
        ap (class_past_blanks text) (sym all)
        ∙ past-blanks end (place - end) (omega (arith, all, within)) (λ k from below.
        let same : end + (k - end) ≡ k = omega (arith, from) in
        let size = length-drop end (take place text) in
        rw (← get_or-take place text k 0 (omega (arith, below, all)))
        (rw (get_or-drop, same) at (blanks (k - end) 0 (omega (arith, long, from, below, all)))))

    pub past-none : end ≡ 0 → class_past_blanks text place ≡ Unknown
    past-none none = end-past ∙ ap (class_past_blanks text) none

    pub past-some : 0 < end → class_past_blanks text place ≡ class_of (get_or text (end - 1) 0)
    past-some some =
        let last : suc (end - 1) ≡ end = omega (arith, some) in
        let other = trimmed-other (take place text) some in
        let inside : end - 1 < length text = omega (arith, long, within, some) in
        let byte = get_or-take place text (end - 1) 0 (omega (arith, long, some)) in
        end-past ∙ ap (class_past_blanks text) (sym last)
        ∙ past-byte (end - 1) inside (ap is_blank (sym byte) ∙ other)
