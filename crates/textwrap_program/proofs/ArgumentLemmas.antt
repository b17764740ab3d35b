-- Lemmas on the digits of a width.
use Rattle.std.proofs.Common.{Err, List, Result, arith, false, length, refl, true, ℕ, ◌<◌, ◌^◌, ◌≡◌}
use Rattle.std.proofs.lemmas.Str.Parse.{numerals_by_value, parse_digits, tells_all_ascii_digits}
use Rattle.std.proofs.{Common.Ok, lemmas.Bool.Decides.nat_tests, lemmas.Bool.cases_Bool}
use Rattle.std.specs.Str.Parse.{ParsesUnsigned, digits_value}
use Rattle.std.specs.{Result.OkIff, Result.result_ok, Str.all_ascii_digits}
use Rattle.textwrap_program.specs.Arguments.{is_width, width_of}

width_of-is : {E : Type 0} (word : List ℕ) (r : Result ℕ E) → all_ascii_digits word ≡ true
    → OkIff r ((0 < length word) × (digits_value 10 word < 2 ^ 64)) (digits_value 10 word)
    → result_ok r ≡ width_of word
width_of-is word (Ok n) digits is =
    let yes : is_width word ≡ true = grind (arith, nat_tests, digits, is.0) in
    rw (yes, is.1) refl
width_of-is word (Err e) digits is =
    let no : is_width word ≡ false = grind (arith, nat_tests, cases_Bool, digits, is) in
    rw no refl

-- what `parse` answers of digits is the width that they mean
pub width_of-parsed : {E : Type 0} (word : List ℕ) (r : Result ℕ E) → all_ascii_digits word ≡ true
    → ParsesUnsigned 64 10 word r → result_ok r ≡ width_of word
width_of-parsed word r digits parsed =
    let numerals = numerals_by_value (λ ds. all_ascii_digits ds ≡ true) tells_all_ascii_digits in
    width_of-is word r digits (parse_digits numerals 64 word r parsed digits)
