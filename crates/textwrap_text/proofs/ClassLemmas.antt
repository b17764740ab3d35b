-- The classes of characters, told without the tables.
use Rattle.std.proofs.Common.{eqb-true}
use Rattle.textwrap_text.proofs.ClassNames.{Ideographic, cases_Bool, if◌then◌else◌, slice_index_or}
use Rattle.textwrap_text.proofs.ClassNames.{Ambiguous, CLASSES, arith, class_of, not-true, unit_of}
use Rattle.textwrap_text.proofs.ClassNames.{Bool, List, Unit, false, refl, subst, true, ◌&&◌, ◌==◌}
use Rattle.textwrap_text.proofs.ClassNames.{ap, not, sym, ℕ, ◌+◌, ◌-◌, ◌<◌, ◌||◌, ◌∙◌, ◌≡◌, ◌≤◌}
use Rattle.textwrap_text.specs.Classes.{is_unassigned, is_wide, resolve}
use Rattle.textwrap_text.specs.declared.japanese.TheConstants.{SYLLABLES, WIDE}
use Rattle.textwrap_text.proofs.Units.Texts.{passes-within}
use Rattle.unicode.proofs.{BinaryLemmas.is_extended_pictographic_stepped, Stepped.map_stepped}
use Rattle.unicode.proofs.{CategoryComputing.ucd_category, EastAsianComputing.ucd_east_asian}
use Rattle.unicode.proofs.{EastAsianWidthLemmas.east_asian_width_stepped, Stepped.Stepped}
use Rattle.unicode.proofs.{BreaksComputing.ucd_breaks, EmojiComputing.ucd_emoji, StepsLemmas.skip}
use Rattle.unicode.proofs.{GeneralCategoryLemmas.general_category_stepped, Stepped.zip_stepped}
use Rattle.unicode.proofs.{StepsLemmas.step_value-skip, TrieCheck.all_below, TrieCheck.all_below-at}
use Rattle.unicode.proofs.LineBreakLemmas.{line_break_number_injective, line_break_stepped}
use Rattle.unicode.specs.{Binary.is_extended_pictographic, EastAsianWidth.east_asian_width}
use Rattle.unicode.specs.{GeneralCategory.general_category, Steps.Step, Steps.step_value}
use Rattle.unicode.specs.LineBreak.{line_break, line_break_number}

-- ---- what is asked of a character, as steps, over which proofs compute

abbrev wide_at : ℕ → Bool
wide_at c = is_wide (east_asian_width c)

abbrev unassigned_at : ℕ → Bool
unassigned_at c = is_extended_pictographic c && is_unassigned (general_category c)

abbrev class_stepped : Stepped class_of
class_stepped =
    zip_stepped resolve line_break general_category line_break_stepped general_category_stepped

abbrev wide_stepped : Stepped wide_at
wide_stepped = map_stepped is_wide east_asian_width east_asian_width_stepped

abbrev unassigned_stepped : Stepped unassigned_at
unassigned_stepped = zip_stepped (λ p category. p && is_unassigned category)
    is_extended_pictographic general_category is_extended_pictographic_stepped
    general_category_stepped

-- a stretch of characters, each of which passes with its value
unfoldable stretch_passes : {V : Type 0} → (ℕ → V → Bool) → V → ℕ → ℕ → List (Step V) → Bool
stretch_passes test default from n steps =
    all_below (λ k. test (from + k) (step_value default steps (from + k))) n

-- the steps before it are skipped once
passes-stretch : {V : Type 0} (f : ℕ → V) (s : Stepped f) (test : ℕ → V → Bool) (from n : ℕ)
    → stretch_passes test s.default from n (skip s.steps from) ≡ true
    → (c : ℕ) → from ≤ c → c < from + n → test c (f c) ≡ true
unfolding stretch_passes
passes-stretch f s test from n ok c low high =
    let place : from + (c - from) ≡ c = omega (arith, low) in
    ap (test c) (s.gives c ∙ sym (step_value-skip s.default s.steps from c low))
    ∙ subst (λ x. test x (step_value s.default (skip s.steps from) x) ≡ true) place
    (all_below-at (λ k. test (from + k) (step_value s.default (skip s.steps from) (from + k))) n
    (c - from) ok (omega (arith, low, high)))

pub early_assigned : (c : ℕ) → c < 0x1_F000 → unassigned_at c ≡ false
unfolding ucd_emoji ucd_category
early_assigned c below =
    not-true _
    (passes-within (0, 0x1_EFFF) refl unassigned_at unassigned_stepped not (omega arith)
    refl c (omega arith) (omega (arith, below)))

-- ---- ASCII

pub ascii_class : (c : ℕ) → c < 128 → slice_index_or CLASSES c Ambiguous ≡ class_of c
unfolding ucd_breaks ucd_category stretch_passes
ascii_class c below =
    line_break_number_injective _ _ (eqb-true _ _
    (passes-stretch class_of class_stepped
    (λ x v. line_break_number (slice_index_or CLASSES x Ambiguous) == line_break_number v) 0 128
    refl c (omega arith) below))

ascii-narrow : (c : ℕ) → c < 128 → wide_at c ≡ false
unfolding ucd_east_asian stretch_passes
ascii-narrow c below =
    not-true _
    (passes-stretch wide_at wide_stepped (λ x v. not v) 0 128 refl c (omega arith) below)

pub ascii_unit : (c : ℕ) → c < 128 → ◌≡◌ {A = Unit} (record {
  class = slice_index_or CLASSES c Ambiguous;
  is_wide = false;
  is_unassigned_pictograph = false;
}) (unit_of c)
ascii_unit c below =
    rw (ascii_class c below, ascii-narrow c below, early_assigned c (omega (arith, below))) refl

-- ---- ideographs

ideograph-class : (c : ℕ) → 0x4E00 ≤ c → c ≤ 0x9FFF → Ideographic ≡ class_of c
unfolding ucd_breaks
ideograph-class c low high =
    ap (λ v. resolve v (general_category c))
    (line_break_number_injective Ideographic _ (eqb-true _ _
    (passes-within (0x4E00, 0x9FFF) refl line_break line_break_stepped
    (λ v. line_break_number Ideographic == line_break_number v) (omega arith) refl c low high)))

ideograph-wide : (c : ℕ) → 0x4E00 ≤ c → c ≤ 0x9FFF → wide_at c ≡ true
unfolding ucd_east_asian
ideograph-wide c low high =
    passes-within (0x4E00, 0x9FFF) refl wide_at wide_stepped (λ v. v) (omega arith) refl c low high

pub ideograph_unit : (c : ℕ) → 0x4E00 ≤ c → c ≤ 0x9FFF → ◌≡◌ {A = Unit} (record {
  class = Ideographic;
  is_wide = true;
  is_unassigned_pictograph = false;
}) (unit_of c)
ideograph_unit c low high = grind (arith, ideograph-class, ideograph-wide, early_assigned)

-- ---- what the tables of Unicode give for the signs and syllables of Japanese, which the code
-- does not look up

-- the second, where the first fails
pub past-first : (a b : Bool) → a ≡ false → a || b ≡ true → b ≡ true
past-first a b none e = grind (arith, cases_Bool)

abbrev pub agree : Bool → Bool → Bool
agree a b = if a then b else not b

pub agree-same : (a b : Bool) → agree a b ≡ true → a ≡ b
agree-same a b e = grind (arith, cases_Bool)

syllable-class : (c : ℕ) → 0x3000 ≤ c → c ≤ 0x30FF
    → slice_index_or SYLLABLES (c - 0x3000) Ambiguous ≡ class_of c
unfolding ucd_breaks ucd_category stretch_passes
syllable-class c from to =
    line_break_number_injective _ _ (eqb-true _ _
    (passes-stretch class_of class_stepped
    (λ x v. line_break_number (slice_index_or SYLLABLES (x - 0x3000) Ambiguous)
    == line_break_number v)
    0x3000 0x100 refl c from (omega (arith, to))))

syllable-wide : (c : ℕ) → 0x3000 ≤ c → c ≤ 0x30FF → slice_index_or WIDE (c - 0x3000) false ≡ wide_at c
unfolding ucd_east_asian stretch_passes
syllable-wide c from to =
    agree-same _ _
    (passes-stretch wide_at wide_stepped (λ x v. agree (slice_index_or WIDE (x - 0x3000) false) v)
    0x3000 0x100 refl c from (omega (arith, to)))

pub japanese_unit : (c : ℕ) → 0x3000 ≤ c → c ≤ 0x30FF → ◌≡◌ {A = Unit} (record {
  class = slice_index_or SYLLABLES (c - 0x3000) Ambiguous;
  is_wide = slice_index_or WIDE (c - 0x3000) false;
  is_unassigned_pictograph = false;
}) (unit_of c)
japanese_unit c from to =
    let assigned = early_assigned c (omega (arith, to)) in
    rw (syllable-class c from to, syllable-wide c from to, assigned) refl
