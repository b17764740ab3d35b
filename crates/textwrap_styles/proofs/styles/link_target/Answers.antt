use Rattle.textwrap_styles.proofs.styles.link_target.Goals as goal
use Rattle.std.{proofs.lemmas.Str.Pattern.split_once_first, specs.List.after_first, specs.Option.MatchOption}
use Rattle.textwrap_styles.proofs.{Common.is_link, Sequences.{IsAround, link-cases}}
use Rattle.textwrap_styles.proofs.styles.link_target.Goals.{After-or}
use Rattle.textwrap_text.proofs.Common.{◌==◌, ap, arith, codes, false, nat_tests, subst, sym, ◌∙◌, ◌≡◌}
use Rattle.textwrap_text.proofs.Lists.Parts.{any-position, stripped_prefix}

-- what is found of either end says whether it is a link
cases : (c : After-or) → MatchOption c.or.result (is_link c.args.sequence.now ≡ false)
    (λ fields. IsAround c.args.sequence.now fields.now)
cases c =
    let s = c.args.sequence.now in
    let rest = c.in_ok-fields.fields.now in
    subst (λ r. MatchOption r (is_link s ≡ false) (λ fields. IsAround s fields.now)) (sym c.or.ensures)
    (link-cases s rest c.strip_suffix.result c.strip_suffix-2.result
    (stripped_prefix (codes "\u{1b}]8;") s rest c.in_ok-fields.ensures.cases)
    c.strip_suffix.ensures.cases c.strip_suffix-2.ensures.cases)

pub returns-in_err-fields-2-clause-link : goal.returns-in_err-fields-2-clause-link
returns-in_err-fields-2-clause-link c =
    let none = rw c.in_err-fields-2.was at (cases (goal.at.returns-in_err-fields-2-clause-link c).After-or) in
    rw c.from_residual-in_err-fields-2.ensures (sym none)

-- a semicolon is found where the fields have one
pub returns-in_err-target-clause-link : goal.returns-in_err-target-clause-link
returns-in_err-target-clause-link c =
    let whole = rw c.in_ok-fields-2.was at (cases (goal.at.returns-in_err-target-clause-link c).After-or) in
    let found = rw c.in_err-target.was at (split_once_first 59 _ _ c.split_once.ensures.cases (omega arith)) in
    rw c.from_residual-in_err-target.ensures
    (grind (arith, nat_tests, found, whole.is, any-position (λ b. b == 59) c.in_ok-fields-2.fields.now))

pub returns-clause-link : goal.returns-clause-link
returns-clause-link c =
    let whole = rw c.in_ok-fields-2.was at (cases (goal.at.returns-clause-link c).After-or) in
    let found = rw c.in_ok-target.was at (split_once_first 59 _ _ c.split_once.ensures.cases (omega arith)) in
    grind (arith, nat_tests, found.0, whole.is, any-position (λ b. b == 59) c.in_ok-fields-2.fields.now)

pub returns-clause-target : goal.returns-clause-target
returns-clause-target c =
    let whole = rw c.in_ok-fields-2.was at (cases (goal.at.returns-clause-target c).After-or) in
    let found = rw c.in_ok-target.was at (split_once_first 59 _ _ c.split_once.ensures.cases (omega arith)) in
    found.2 ∙ ap (after_first (λ b. b == 59)) (sym whole.are)
