use Rattle.textwrap_styles.proofs.styles.style_parameters.Goals as goal
use Rattle.textwrap_styles.proofs.{Common.{is_in_range, is_style}, Sequences.{not_style, style-is}}
use Rattle.textwrap_styles.proofs.styles.style_parameters.Goals.{In_ok-parameters}
use Rattle.textwrap_text.proofs.Common.{ap, arith, codes, list_all, sym, ◌∙◌, ◌≡◌}
use Rattle.textwrap_text.proofs.Lists.Parts.{stripped_prefix, stripped_suffix}

pub returns-in_err-parameters-clause-style : goal.returns-in_err-parameters-clause-style
returns-in_err-parameters-clause-style c =
    let rest = c.in_ok-strip_prefix.field-0.now in
    let whole = stripped_prefix (codes "\u{1b}[") c.args.sequence.now rest
    c.in_ok-strip_prefix.ensures.cases in
    rw c.from_residual-in_err-parameters.ensures
    (sym (ap is_style whole ∙ not_style rest c.in_err-parameters.ensures.cases))

style : (c : In_ok-parameters) → list_all (is_in_range 0x30 0x3B) c.in_ok-parameters.parameters.now
    ≡ is_style c.args.sequence.now
style c =
    let front = c.in_ok-strip_prefix.ensures.cases in
    grind (arith, stripped_prefix, stripped_suffix, style-is, front, c.in_ok-parameters.ensures.cases)

pub returns-then-are_style_parameters-clause-style :
    goal.returns-then-are_style_parameters-clause-style
returns-then-are_style_parameters-clause-style c =
    c.if-are_style_parameters.ensures
    ∙ style (goal.at.returns-then-are_style_parameters-clause-style c).In_ok-parameters

pub returns-else-are_style_parameters-clause-style :
    goal.returns-else-are_style_parameters-clause-style
returns-else-are_style_parameters-clause-style c =
    c.if-are_style_parameters.ensures
    ∙ style (goal.at.returns-else-are_style_parameters-clause-style c).In_ok-parameters
