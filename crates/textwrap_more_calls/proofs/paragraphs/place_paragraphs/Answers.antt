use Rattle.textwrap_more_calls.proofs.paragraphs.place_paragraphs.Goals as goal
use Rattle.textwrap_calls.proofs.Common.{◌+◌, ap, length, append-nil, ◌∙◌, sym}
use Rattle.textwrap_calls.proofs.Common.{paragraphs_left-split}
use Rattle.textwrap_more_calls.proofs.PieceLemmas.{HasPlaced-more, HasPlaced-start}

pub loop-rest-init : goal.loop-rest-init
loop-rest-init c = HasPlaced-start c.new-places.ensures.items

pub loop-rest-preserved : goal.loop-rest-preserved
loop-rest-preserved c =
    rw c.in_ok-push.ensures.items (HasPlaced-more (rw (
      c.in-Some.is,
      paragraphs_left-split c.args.line_ending c.in-Some.text.now c.split_paragraph.result.1
          c.split_paragraph.result.0.now c.split_paragraph.ensures.paragraphs,
    ) at c.loop-rest.invariant)
    (ap (λ bytes. c.loop-rest.offset
    + (length c.split_paragraph.result.0.now + length bytes)) c.as_str.ensures))

pub returns : goal.returns
returns c =
    let all = rw c.in_default.is at c.loop-rest.invariant in
    sym (append-nil c.loop-rest.places.items) ∙ all.whole
