use Rattle.textwrap_display.proofs.justifying.push_widened.Goals as goal
use Rattle.textwrap_display.proofs.WidenedWords.{first-written, gap-written, widened-text}
use Rattle.textwrap_text.proofs.Common.{append-nil, append_assoc, arith, string_bytes, ◌∙◌}

pub loop-word-init : goal.loop-word-init
loop-word-init g c = grind (arith, append_assoc, first-written, widened-text)

pub loop-word-preserved : goal.loop-word-preserved
loop-word-preserved g c =
    gap-written c.args.each c.loop-word.left _ _ c.in-Some-word.word.now (string_bytes c.loop-word.text)
    _ _ _ c.next-in-loop-word.new.self c.min.ensures c.saturating_sub-left.ensures
    c.in_ok-push_blanks.ensures c.in_ok-push_blanks-2.ensures c.in_ok-push_str-2.ensures.bytes
    ∙ (rw c.in-Some-word.ensures.steps at c.loop-word.invariant)

pub returns : goal.returns
returns g c = grind (arith, append-nil)
