use Rattle.textwrap_styles.proofs.settings.digits_len.Goals as goal
use Rattle.std.proofs.lemmas.List.{at_drop_more}
use Rattle.textwrap_styles.proofs.Common.{is_ascii_digit}
use Rattle.textwrap_text.proofs.Common.{arith, at_drop_all, cases_Bool, prefix_len}

pub returns-then-not-is_ascii_digit : goal.returns-then-not-is_ascii_digit
returns-then-not-is_ascii_digit c =
    let next = at_drop_more (prefix_len is_ascii_digit) _ _ 0 c.loop-at-test.true in
    grind (arith, cases_Bool, next, c.loop-at.invariant, c.is_ascii_digit.ensures.value, c)

pub loop-at-preserved : goal.loop-at-preserved
loop-at-preserved c =
    let next = at_drop_more (prefix_len is_ascii_digit) _ _ 0 c.loop-at-test.true in
    grind (arith, cases_Bool, next, c.loop-at.invariant, c.is_ascii_digit.ensures.value, c)

pub returns : goal.returns
returns c =
    let bytes = c.args.parameters.now in
    let none = at_drop_all (prefix_len is_ascii_digit) bytes c.loop-at.at c.loop-at-test.false in
    omega (arith, none, c.loop-at.invariant)
