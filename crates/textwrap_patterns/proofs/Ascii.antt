-- What is known of characters of ASCII and of Latin scripts without a table.
use Rattle.std.proofs.{Common.nat_le, Common.◌%◌, Common.leb-true, lemmas.List.Folds.list_all_at}
use Rattle.std.proofs.lemmas.List.FromFn.{get_or-range_with_len, length-range_with_len}
use Rattle.std.specs.Char.{to_ascii_lowercase, Unicode.Rows.by_runs, Unicode.Rows.by_strings}
use Rattle.std.specs.Char.Unicode.ToLowercase.{lowercase_runs, lowercase_strings, to_lowercase}
use Rattle.textwrap_patterns.specs.Letters.{is_combining_mark, lowered}
use Rattle.textwrap_text.proofs.Common.{list_all, not, ◌==◌, ◌||◌, eqb-true, and_parts, nat_tests}
use Rattle.textwrap_text.proofs.Common.{Bool, List, [], arith, cases_lt, false, get_or, inl, inr}
use Rattle.textwrap_text.proofs.Common.{false≢true, range_with_len, refl, true, ℕ, ◌+◌, ◌-◌, ◌<◌}
use Rattle.textwrap_text.proofs.Common.{◌∙◌, ◌∷◌, ◌≡◌, ◌≢◌, ◌≤◌}
use Rattle.ucd_derived.specs.AlphabeticRanges.{alphabetic_ranges}
use Rattle.ucd_derived.specs.Binary.{is_alphabetic, is_grapheme_extend}
use Rattle.ucd_derived.specs.GraphemeExtendRanges.{grapheme_extend_ranges}
use Rattle.ucd_table.specs.Rows.{Range, in_ranges}

-- what passes for all of a range passes for each number in it
pub each-of : (p : ℕ → Bool) (a n c : ℕ) → list_all p (range_with_len a n) ≡ true → a ≤ c → c < a + n
    → p c ≡ true
each-of p a n c all le lt = by (p c) refl
  where
    here : get_or (range_with_len a n) (c - a) 0 ≡ c
    here = get_or-range_with_len a n (c - a) 0 (omega arith) ∙ (omega arith)

    by : (b : Bool) → p c ≡ b → b ≡ true
    by true is = refl
    by false is = grind (arith, list_all_at, length-range_with_len, here)

-- ranges that begin at a number or behind it hold none below it
below-ranges : (rs : List Range) (low c : ℕ) → list_all (λ r. nat_le low r.0) rs ≡ true → c < low
    → in_ranges rs c ≡ false
unfolding in_ranges
below-ranges [] low c all lt = refl
below-ranges (r ∷ rs) low c all lt =
    let both = and_parts (nat_le low r.0) (list_all (λ r. nat_le low r.0) rs) all in
    grind (arith, nat_tests, leb-true low r.0 both.0, below-ranges rs low c both.1 lt)

pub mark-none : (c : ℕ) → c < 0x300 → is_combining_mark c ≡ false
unfolding is_grapheme_extend grapheme_extend_ranges
mark-none c lt = below-ranges grapheme_extend_ranges 0x300 c refl lt

pub lowercase-alphabetic : (c : ℕ) → 97 ≤ c → c ≤ 122 → is_alphabetic c ≡ true
unfolding is_alphabetic in_ranges alphabetic_ranges
lowercase-alphabetic c le ge = each-of is_alphabetic 97 26 c refl le (omega arith)

pub latin-alphabetic : (c : ℕ) → 0xDF ≤ c → c ≤ 0x24F → c ≢ 0xF7 → is_alphabetic c ≡ true
unfolding is_alphabetic in_ranges alphabetic_ranges
latin-alphabetic c le ge other = elim (cases_lt c 0xF7) [
  | inl before ↦ each-of is_alphabetic 0xDF 24 c refl le (omega arith)
  | inr behind ↦ each-of is_alphabetic 0xF8 0x158 c refl (omega (arith, other)) (omega arith)
]

-- ---- lower case

pub lowered-ascii : (c : ℕ) → c < 128 → lowered c ≡ to_ascii_lowercase c
unfolding to_lowercase by_runs by_strings lowercase_runs lowercase_strings
lowered-ascii c lt = eqb-true (lowered c) (to_ascii_lowercase c)
    (each-of (λ n. lowered n == to_ascii_lowercase n) 0 128 c refl (omega arith) lt)

if-passed : (a b : Bool) → (not a || b) ≡ true → a ≡ true → b ≡ true
if-passed true b both passes = both
if-passed false b both passes = absurd (false≢true passes)

-- of the letters of a range, each that passes is in lower case
lowered-each : (test : ℕ → Bool) (a n c : ℕ)
    → list_all (λ n. not (test n) || (lowered n == n)) (range_with_len a n) ≡ true → a ≤ c → c < a + n
    → test c ≡ true → lowered c ≡ c
lowered-each test a n c all le lt passes =
    eqb-true (lowered c) c (if-passed (test c) (lowered c == c)
    (each-of (λ n. not (test n) || (lowered n == n)) a n c all le lt) passes)

pub lowered-odd : (c : ℕ) → 0x100 ≤ c → c ≤ 0x137 → (c % 2 == 1) ≡ true → lowered c ≡ c
unfolding to_lowercase by_runs by_strings lowercase_runs lowercase_strings
lowered-odd c le ge odd = lowered-each (λ n. n % 2 == 1) 0x100 56 c refl le (omega arith) odd

pub lowered-more_odd : (c : ℕ) → 0x14A ≤ c → c ≤ 0x177 → (c % 2 == 1) ≡ true → lowered c ≡ c
unfolding to_lowercase by_runs by_strings lowercase_runs lowercase_strings
lowered-more_odd c le ge odd = lowered-each (λ n. n % 2 == 1) 0x14A 46 c refl le (omega arith) odd

pub lowered-even : (c : ℕ) → 0x138 ≤ c → c ≤ 0x148 → not (c % 2 == 1) ≡ true → lowered c ≡ c
unfolding to_lowercase by_runs by_strings lowercase_runs lowercase_strings
lowered-even c le ge even = lowered-each (λ n. not (n % 2 == 1)) 0x138 17 c refl le (omega arith) even

pub lowered-more_even : (c : ℕ) → 0x179 ≤ c → c ≤ 0x17E → not (c % 2 == 1) ≡ true → lowered c ≡ c
unfolding to_lowercase by_runs by_strings lowercase_runs lowercase_strings
lowered-more_even c le ge even = lowered-each (λ n. not (n % 2 == 1)) 0x179 6 c refl le (omega arith) even

pub lowered-latin : (c : ℕ) → 0xDF ≤ c → c ≤ 0xFF → lowered c ≡ c
unfolding to_lowercase by_runs by_strings lowercase_runs lowercase_strings
lowered-latin c le ge =
    eqb-true (lowered c) c (each-of (λ n. lowered n == n) 0xDF 33 c refl le (omega arith))
