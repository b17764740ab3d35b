use Rattle.textwrap.proofs.inplace.find_breaks.Goals as goal
use Rattle.textwrap.proofs.Common.{FitsOneLine, false≢true, All-head, All-tail, arith, subst, ◌∙◌}
use Rattle.textwrap.proofs.Common.{LF, ap}
use Rattle.textwrap.proofs.Text.InPlace.{bytes_left-split, HasBreaks-more, HasBreaks-end, HasBreaks}
use Rattle.textwrap_layout.proofs.Text.Lines.{paragraphs_left-split, paragraphs_left, bytes_left}

pub loop-rest-preserved : goal.loop-rest-preserved
loop-rest-preserved g c =
    let part = c.split_paragraph.result.0.now in
    let after = c.split_paragraph.result.1 in
    let first = paragraphs_left-split LF c.in-Some.text.now after part
    c.split_paragraph.ensures.paragraphs in
    let added = c.in_ok-push_breaks.ensures.breaks in
    let len = bytes_left-split c.in-Some.text.now part after first in
    let room = ap bytes_left c.in-Some.is in (
      HasBreaks-more c.args.width c.args.text.now c.loop-rest.breaks.items
          c.push_breaks.new.breaks.items c.loop-rest.start part
          (paragraphs_left LF c.loop-rest.rest) (paragraphs_left LF after) added.0
          c.loop-rest.invariant.0 (ap (paragraphs_left LF) c.in-Some.is ∙ first) added.1 added.2,
      omega (arith, c.loop-rest.invariant.1, len, room),
      λ fits. All-tail (FitsOneLine c.args.width) part (paragraphs_left LF after)
          (rw (c.in-Some.is, first) at c.loop-rest.invariant.2 fits),
    )

pub returns-clause-breaks : goal.returns-clause-breaks
returns-clause-breaks g c = HasBreaks-end c.args.width c.args.text.now c.loop-rest.breaks.items c.loop-rest.start
    (subst (HasBreaks c.args.width c.args.text.now c.loop-rest.breaks.items c.loop-rest.start)
    (ap (paragraphs_left LF) c.in_default.is) c.loop-rest.invariant.0)

pub returns-in_err-push_breaks-clause-succeeds : goal.returns-in_err-push_breaks-clause-succeeds
returns-in_err-push_breaks-clause-succeeds g c = λ fits.
    let part = c.split_paragraph.result.0.now in
    let after = c.split_paragraph.result.1 in
    let first = paragraphs_left-split LF c.in-Some.text.now after part
    c.split_paragraph.ensures.paragraphs in
    let fit = All-head (FitsOneLine c.args.width) part (paragraphs_left LF after)
    (rw (c.in-Some.is, first) at c.loop-rest.invariant.2 fits) in
    absurd (false≢true (c.in_err-push_breaks.ensures.succeeds fit))
