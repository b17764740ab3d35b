use Rattle.textwrap_marked.proofs.filling.push_pieces.Goals as goal
use Rattle.textwrap_marked.proofs.Common.{string_bytes, ◌++◌, ◌∙◌, ap}
use Rattle.textwrap_marked.proofs.PieceSums.{pieces-last, pieces-next}
use Rattle.textwrap_marked.proofs.filling.push_pieces.Goals.{else-i-line+in_ok-push_str-2}
use Rattle.textwrap_marked.proofs.filling.push_pieces.Goals.{then-i-line+in_ok-push_str}

pub loop-i-preserved : goal.loop-i-preserved
loop-i-preserved c =
    let line = c.args.line.now in
    elim c.if-i-line.branch [
      | then-i-line+in_ok-push_str w ↦ pieces-next line c.loop-i.i _ _ _ _ c.loop-i-test.true
          c.loop-i.invariant w.if-i-line.true
          (ap string_bytes w.output-is ∙ w.in_ok-push_str.ensures.bytes)
      | else-i-line+in_ok-push_str-2 w ↦ pieces-last line c.loop-i.i _ _ _ _ c.loop-i-test.true
          c.loop-i.invariant w.if-i-line.false
          (ap string_bytes w.output-is ∙ w.in_ok-push_str-2.ensures.bytes
          ∙ ap (λ t. string_bytes c.loop-i.output ++ t) w.word.ensures)
    ]
