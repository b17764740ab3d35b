use Rattle.textwrap_styles.proofs.settings.code.Goals as goal
use Rattle.std.proofs.lemmas.{Int.Digits.digits_value_more, List.Sums.prefix_len-le-length}
use Rattle.std.proofs.lemmas.List.Sums.{prefix_len_passes}
use Rattle.textwrap_styles.proofs.Common.{is_ascii_digit}
use Rattle.textwrap_text.proofs.Common.{ℕ, ◌<◌, ◌≡◌, arith, cases_Bool, get_or, get_or-take, length}
use Rattle.textwrap_text.proofs.Common.{length-take-le, List, nat_tests, prefix_len, rules, take, true}

-- one of the digits that these begin with
digit-at : (bs : List ℕ) (n k : ℕ) → n ≡ prefix_len is_ascii_digit bs → k < length (take n bs)
    → is_ascii_digit (get_or (take n bs) k 0) ≡ true
digit-at bs n k is within =
    search (rules, arith, get_or-take, prefix_len_passes, prefix_len-le-length, length-take-le)

pub overflow_sub-byte : goal.overflow_sub-byte
overflow_sub-byte c =
    let is = digit-at _ _ _ c.digits_len.ensures c.loop-byte-test.true in
    grind (arith, cases_Bool, nat_tests, is)

pub loop-byte-preserved : goal.loop-byte-preserved
loop-byte-preserved c =
    let bs = take c.digits_len.result c.args.parameters.now in
    let is = digit-at _ _ _ c.digits_len.ensures c.loop-byte-test.true in
    let more = digits_value_more 10 bs c.loop-byte.byte-index c.loop-byte-test.true in
    let sum = c.saturating_add-code.ensures in
    grind (arith, cases_Bool, nat_tests, more, is, c.loop-byte.invariant, c.saturating_mul.ensures, sum)
