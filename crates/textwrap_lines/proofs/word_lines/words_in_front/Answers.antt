use Rattle.textwrap_lines.proofs.word_lines.words_in_front.Goals as goal
use Rattle.textwrap_lines.proofs.word_lines.words_in_front.Goals.{else-frame, then-frame+in_ok-push}
use Rattle.textwrap_layout.proofs.Paragraph.Pieces.{word_of-nil}
use Rattle.textwrap_lines.proofs.Common.{[], ap, cond, sym, ◌∙◌}
use Rattle.textwrap_words.specs.Pieces.{empty_front}

pub returns : goal.returns
returns g c =
    let by_test = c.args.frame.now.front in
    elim c.if-frame.branch [
      | then-frame+in_ok-push w ↦
          rw (
            w.held-is,
            w.in_ok-push.ensures.items,
            c.new-held.ensures.items,
            w.from.ensures,
            word_of-nil,
          ) (ap (λ b. cond b empty_front []) (sym w.if-frame.true) ∙ by_test)
      | else-frame w ↦
          rw (w.held-is, c.new-held.ensures.items)
          (ap (λ b. cond b empty_front []) (sym w.if-frame.false) ∙ by_test)
    ]
