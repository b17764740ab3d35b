use Rattle.textwrap.proofs.refilling.refill_by.Goals as goal
use Rattle.textwrap.proofs.Common.{string_bytes, IfOk-weaker, layout_view, ◌∙◌, ap}
use Rattle.textwrap.proofs.Text.Unfilling.{refilled-from}
use Rattle.textwrap_layout.specs.Paragraph.{DividesWith}

pub returns-clause-refilled : goal.returns-clause-refilled
returns-clause-refilled g c = IfOk-weaker c.fill_joined.result _ _ (λ refilled.
    refilled-from (layout_view c.args.layout)
    (DividesWith (g.P.Parts.may c.args.parts.now))
    c.args.filled_text.now (string_bytes refilled) c.in_ok-unfilled.found
    c.in_ok-unfilled.ensures.layout c.deref.result.now
    (c.deref.ensures ∙ c.in_ok-unfilled.ensures.joined) c.in_ok-unfilled.keeps_ending
    c.in_ok-unfilled.ensures.keeps) c.fill_joined.ensures.filled

pub returns-clause-no_overflow : goal.returns-clause-no_overflow
returns-clause-no_overflow g c = λ none.
    c.fill_joined.ensures.no_overflow (rw (
      ap (λ s. s.initial_indent) c.in_ok-unfilled.ensures.layout,
      ap (λ s. s.subsequent_indent) c.in_ok-unfilled.ensures.layout,
      c.deref.ensures ∙ c.in_ok-unfilled.ensures.joined,
    ) none)
