use Rattle.textwrap_display.proofs.fitting.Sharing.of.Goals as goal
use Rattle.textwrap_display.proofs.{Common.sure, FittingWidths.sum_by-none, FittingWidths.sum_by-one}
use Rattle.textwrap_display.specs.declared.fitting.Basis.TheVariants.{Nothing, Scarce}
use Rattle.textwrap_text.proofs.Common.{arith, sum_by, sym, ◌∙◌, ◌≡◌}

pub returns-then-lines-eq0-clause-shares : goal.returns-then-lines-eq0-clause-shares
returns-then-lines-eq0-clause-shares c =
    let none : sum_by (sure Nothing) c.args.needs.now ≡ 0 =
    sym c.sums_of-words.ensures.lines ∙ c.if-lines-eq0.true in
    omega (arith, none, sum_by-one c.args.needs.now)

pub returns-else-words-total-clause-shares : goal.returns-else-words-total-clause-shares
returns-else-words-total-clause-shares c =
    let none : sum_by (sure Scarce) c.args.needs.now ≡ 0 = sum_by-none c.args.needs.now in
    omega (arith, none, c.sums_of-words.ensures.words)
