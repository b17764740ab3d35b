use Rattle.textwrap_marks.proofs.signs.is_small.Goals as goal
use Rattle.std.proofs.lemmas.Str.{chars_past_char, encode_ascii}
use Rattle.std.specs.Char.Unicode.{Alphabetic.alphabetic_ranges, Alphabetic.is_alphabetic, Rows.in_ranges}
use Rattle.std.specs.{Char.is_ascii_lowercase, Prelude.slice_index_or}
use Rattle.textwrap_marks.proofs.Common.{arith, Bool, List, true, ◌++◌, ◌||◌, ◌<◌, ◌∙◌, ◌∷◌, ◌≡◌, ◌≤◌, []}
use Rattle.textwrap_marks.proofs.Common.{cases_Bool, has_letter, nat_tests, list_any, IsUtf8, length, sym}
use Rattle.textwrap_marks.{proofs.Common.ap, proofs.Common.ℕ, specs.Words.is_letter_or_digit}

small-letter : (c : ℕ) → is_ascii_lowercase c ≡ true → is_letter_or_digit c ≡ true
unfolding is_alphabetic in_ranges alphabetic_ranges
small-letter c small = second _ _ _ _ small
  where
    second : (a b d e : Bool) → b ≡ true → ((a || (b || d)) || e) ≡ true
    second a b d e is = grind (arith, cases_Bool, is)

letter-first : (word : List ℕ) → IsUtf8 word → 2 ≤ length word
    → is_ascii_lowercase (slice_index_or word 0 0) ≡ true → has_letter word ≡ true
letter-first [] utf8 some small = absurd (omega (arith, some))
letter-first (c ∷ cs) utf8 some small =
    let ascii : c < 128 = grind (arith, nat_tests) in
    ap (list_any is_letter_or_digit) (chars_past_char (c ∷ cs) cs c utf8
    (sym (ap (λ l. l ++ cs) (encode_ascii c ascii))))
    ∙ ap (λ b. b || has_letter cs) (small-letter c small)

pub returns-then-is_ascii_lowercase-clause-letter :
    goal.returns-then-is_ascii_lowercase-clause-letter
returns-then-is_ascii_lowercase-clause-letter c =
    let same = c.as_bytes.ensures.value in
    λ is. letter-first c.args.word.now c.utf8.word (rw same at c.in-len2-up.len_at_least)
    (rw same at (sym c.is_ascii_lowercase.ensures.value ∙ c.if-is_ascii_lowercase.true))
