use Rattle.textwrap.proofs.indentation.margin_of.Goals as goal
use Rattle.textwrap.proofs.Common.{ended_lines-texts, texts_of, chars, None, refl, sym, ◌∙◌, ap}
use Rattle.textwrap.proofs.Text.Margins.{margin_after-blank, margin_after-first, margin_after-end}
use Rattle.textwrap.proofs.Text.Margins.{margin_after}

pub loop-line-init : goal.loop-line-init
loop-line-init c =
    let left = c.into_iter-line-iterator.ensures.into_iter_gives ∙ c.of-line-items.ensures in
    ap (margin_after None) (ap texts_of left ∙ ended_lines-texts c.args.s.now)

pub loop-line-preserved-in-Some-margin : goal.loop-line-preserved-in-Some-margin
loop-line-preserved-in-Some-margin c = rw c.narrowed.ensures (rw (c.in-Some-margin.is, c.in-Some.ensures.steps) at c.loop-line.invariant)

pub loop-line-preserved-in-None-margin : goal.loop-line-preserved-in-None-margin
loop-line-preserved-in-None-margin c = sym (margin_after-blank c.in-Some.line.text.now _
    (sym c.is_blank_line.ensures ∙ c.if-is_blank_line.true))
    ∙ (rw (c.in-None-margin.is, c.in-Some.ensures.steps) at c.loop-line.invariant)

pub loop-line-preserved : goal.loop-line-preserved
loop-line-preserved c =
    rw c.leading_whitespace.ensures (sym (margin_after-first c.in-Some.line.text.now _
    (sym c.is_blank_line.ensures ∙ c.if-is_blank_line.false))
    ∙ (rw (c.in-None-2.is, c.in-Some.ensures.steps) at c.loop-line.invariant))

pub returns : goal.returns
returns c =
    ap (λ m. chars m.now) c.unwrap_or.ensures ∙ margin_after-end c.loop-line.margin _ refl
    ∙ (rw c.in-None.ensures.steps.0 at c.loop-line.invariant)
