-- Patterns at whose hyphen letters change: the levels that they keep.
use Rattle.std.proofs.{Common.{◌%◌, leb-true}, lemmas.Grind.get_or_after_one}
use Rattle.textwrap_dictionaries.specs.Entries.{Said, Pattern, Changed, Wrong, changed_by, changed_said}
use Rattle.textwrap_dictionaries.specs.Entries.{changes_at, exception_or_fault, exception_said, exception_written}
use Rattle.textwrap_dictionaries.specs.Entries.{has_sign, has_slash, is_exception, pattern_said, slashed_said}
use Rattle.textwrap_dictionaries.specs.Entries.{unslashed_said, word_said}
use Rattle.textwrap_dictionaries.specs.{Laws.IsChanged, declared.entries.Section.Section}
use Rattle.textwrap_dictionaries.specs.declared.errors.Fault.TheVariants.{Replacement, Sign, TooLong}
use Rattle.textwrap_patterns.specs.Changes.{barred_at, barred_from, text_before, without_changes}
use Rattle.textwrap_patterns.specs.{Listed.{ExceptionText, PatternText}, Written.{is_digit, levels_written}}
use Rattle.textwrap_patterns.specs.{Written.{letters_written, pattern_written}, declared.changes.Region.Region}
use Rattle.textwrap_text.proofs.Common.{Option, None, Some, if◌then◌else◌, nat_lt, and_parts, le-leb, lt-ltb}
use Rattle.textwrap_text.proofs.Common.{Bool, List, ℕ, [], ap, arith, cases_Bool, drop, false, false≢true, get_or}
use Rattle.textwrap_text.proofs.Common.{inl, inr, length, refl, suc, true, zero, ◌+◌, ◌-◌, ◌<◌, ◌≤◌, ◌⊎◌, ◌∷◌}
use Rattle.textwrap_text.proofs.Common.{◌≡◌}

low-digit : (c : ℕ) (levels : List ℕ) (k : ℕ) → is_digit c ≡ true → ((j : ℕ) → get_or levels j 0 < 10)
    → get_or ((c - 0x30) ∷ drop 1 levels) k 0 < 10
low-digit c levels zero is rest = grind (arith, leb-true, and_parts)
low-digit c levels (suc k) is rest = omega (arith, get_or_after_one levels k 0, rest (1 + k))

low-letter : (levels : List ℕ) (k : ℕ) → ((j : ℕ) → get_or levels j 0 < 10) → get_or (0 ∷ levels) k 0 < 10
low-letter levels zero rest = omega arith
low-letter levels (suc k) rest = rest k

-- levels that are written are digits
low : (cs : List ℕ) (k : ℕ) → get_or (levels_written cs) k 0 < 10
low [] zero = omega arith
low [] (suc k) = omega arith
low (c ∷ cs) k = elim (cases_Bool (is_digit c)) [
  | inl is ↦ rw is (low-digit c (levels_written cs) k is (λ j. low cs j))
  | inr is ↦ rw is (low-letter (levels_written cs) k (λ j. low cs j))
]

-- each level is the one that was written, or the next
at-place : (region : Region) (n : ℕ) (levels : List ℕ) (k : ℕ)
    → get_or (barred_from region n levels) k 0 ≡ barred_at region (n + k) (get_or levels k 0)
at-place region n [] k = grind arith
at-place region n (level ∷ levels) zero = grind arith
at-place region n (level ∷ levels) (suc k) = grind (arith, at-place region (suc n) levels k)

inside-even : (region : Region) (place level : ℕ) → level < 10 → region.first ≤ place → place ≤ region.last
    → barred_at region place level % 2 ≡ 0
inside-even region place level digit from to = grind (arith, le-leb, lt-ltb)

outside-same : (region : Region) (place level : ℕ) → (place < region.first) ⊎ (region.last < place)
    → barred_at region place level ≡ level
outside-same region place level (inl before) = grind (arith, before)
outside-same region place level (inr behind) = grind (arith, behind)

never-lower : (region : Region) (place level : ℕ) → level ≤ barred_at region place level
never-lower region place level = grind arith

at-start : (region : Region) (levels : List ℕ) (k : ℕ)
    → get_or (barred_from region 0 levels) k 0 ≡ barred_at region k (get_or levels k 0)
at-start region levels k = grind (arith, at-place)

is-changed : (region : Region) (word : List ℕ) → IsChanged region word (without_changes region (pattern_written word))
is-changed region word = grind (arith, at-start, inside-even, low, outside-same, never-lower)

abbrev is_changed : Said → Bool
is_changed (Changed p) = true
is_changed _ = false

-- what a word with a change says, by where it is and whether it is too long
by-long : (word : List ℕ) (region : Region) (p : PatternText) (b : Bool)
    → (if b then Wrong TooLong else Changed (without_changes region (pattern_written word))) ≡ Changed p
    → IsChanged region word p
by-long word region p true is = absurd (false≢true (ap is_changed is))
by-long word region p false is = grind (arith, is-changed region word)

by-region : (word : List ℕ) (found : Option Region) (p : PatternText)
    → changed_by found (pattern_written word) ≡ Changed p
    → (region : Region) × (found ≡ Some region) × IsChanged region word p
by-region word None p is = absurd (false≢true (ap is_changed is))
by-region word (Some region) p is = grind (arith, by-long)

by-exception : (cs : List ℕ) (p : PatternText) (b : Bool)
    → (if b then Wrong Replacement else changed_said cs) ≡ Changed p
    → (region : Region) × (changes_at cs ≡ Some region) × IsChanged region (text_before 0x2F cs) p
by-exception cs p true is = absurd (false≢true (ap is_changed is))
by-exception cs p false is = by-region (text_before 0x2F cs) (changes_at cs) p is

exception-or : (e : Option ExceptionText) → is_changed (exception_or_fault e) ≡ false
exception-or None = refl
exception-or (Some e) = refl

pattern-or : (cs : List ℕ) (b : Bool) → is_changed (if b then Wrong TooLong else Pattern (pattern_written cs)) ≡ false
pattern-or cs true = refl
pattern-or cs false = refl

unslashed : (cs : List ℕ) (b : Bool) → is_changed (if b then exception_said cs else pattern_said cs) ≡ false
unslashed cs true = exception-or (exception_written cs)
unslashed cs false = pattern-or cs (nat_lt 255 (length (letters_written cs)))

by-slash : (section : Section) (cs : List ℕ) (p : PatternText) (b : Bool)
    → (if b then slashed_said section cs else unslashed_said section cs) ≡ Changed p
    → (region : Region) × (changes_at cs ≡ Some region) × IsChanged region (text_before 0x2F cs) p
by-slash section cs p true is = by-exception cs p (is_exception section cs) is
by-slash section cs p false is = grind (arith, unslashed)

by-sign : (section : Section) (cs : List ℕ) (p : PatternText) (b : Bool)
    → (if b then Wrong Sign else if has_slash cs then slashed_said section cs else unslashed_said section cs)
    ≡ Changed p
    → (region : Region) × (changes_at cs ≡ Some region) × IsChanged region (text_before 0x2F cs) p
by-sign section cs p true is = absurd (false≢true (ap is_changed is))
by-sign section cs p false is = by-slash section cs p (has_slash cs) is

pub changes-allow-none : (section : Section) (cs : List ℕ) (p : PatternText) → word_said section cs ≡ Changed p
    → (region : Region) × (changes_at cs ≡ Some region) × IsChanged region (text_before 0x2F cs) p
changes-allow-none section cs p is = by-sign section cs p (has_sign cs) is
