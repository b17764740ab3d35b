use Rattle.textwrap_marked.proofs.pieces.joined_of.Goals as goal
use Rattle.textwrap_marked.proofs.Common.{marked_line_view, words_of_lines, spaced_words, joined_view, ap}
use Rattle.textwrap_marked.proofs.Common.{with_words, drop_more, drop_all, arith, drop, refl, ◌++◌, map}
use Rattle.textwrap_marked.proofs.{Common.sym, Common.◌+◌, Common.◌∙◌, PieceLemmas.joined-all}

pub loop-line-preserved : goal.loop-line-preserved
loop-line-preserved c =
    let options = c.args.options.now in
    let lines = c.args.lines.now in
    let i = c.loop-line.line-index in
    let later = words_of_lines (map marked_line_view (drop (i + 1) lines)) in
    c.in_ok-push_words.ensures later
    ∙ ap (λ l. with_words options c.args.starred (joined_view c.loop-line.joined)
    (map (λ w. w.word) (spaced_words l.text.now) ++ later)) c.line-item.is
    ∙ ap (λ ls. with_words options c.args.starred (joined_view c.loop-line.joined)
    (words_of_lines (map marked_line_view ls)))
    (sym (drop_more lines i c.line-item.result c.loop-line-test.true))
    ∙ c.loop-line.invariant

pub returns : goal.returns
returns c =
    joined-all c.args.options.now c.args.starred (joined_view c.loop-line.joined) _ _
    c.in_ok-with_capacity.ensures.bytes c.in_ok-with_capacity-2.ensures.items refl
    (ap (λ ls. with_words c.args.options.now c.args.starred (joined_view c.loop-line.joined)
    (words_of_lines (map marked_line_view ls)))
    (sym (drop_all c.loop-line.line-index c.args.lines.now (omega arith))) ∙ c.loop-line.invariant)
