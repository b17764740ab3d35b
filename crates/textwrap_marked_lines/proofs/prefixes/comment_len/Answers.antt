use Rattle.textwrap_marked_lines.proofs.prefixes.comment_len.Goals as goal
use Rattle.textwrap_marks.proofs.Common.{is_comment_at, spaced_words, nat_tests, arith, sym, ◌∙◌, ap}
use Rattle.textwrap_marked_lines.proofs.FirstWords.{comment_is}
use Rattle.textwrap_marks.proofs.WordCuts.{words_some}
use Rattle.textwrap_text.proofs.Common.{cond}

pub returns-then-is_comment_at-clause-len : goal.returns-then-is_comment_at-clause-len
returns-then-is_comment_at-clause-len c =
    let options = c.args.options.now in
    let words = spaced_words c.args.text.now in
    let some = words_some c.args.text.now (grind (arith, nat_tests)) in
    sym (comment_is options c.args.in_block words some
    ∙ ap (λ b. cond b 1 0) (ap (is_comment_at options c.args.in_block) (sym c.first_word.ensures)
    ∙ sym c.is_comment_at.ensures ∙ c.if-is_comment_at.true))

pub returns-else-is_comment_at-clause-len : goal.returns-else-is_comment_at-clause-len
returns-else-is_comment_at-clause-len c =
    let options = c.args.options.now in
    let words = spaced_words c.args.text.now in
    let some = words_some c.args.text.now (grind (arith, nat_tests)) in
    sym (comment_is options c.args.in_block words some
    ∙ ap (λ b. cond b 1 0) (ap (is_comment_at options c.args.in_block) (sym c.first_word.ensures)
    ∙ sym c.is_comment_at.ensures ∙ c.if-is_comment_at.false))

pub returns-then-is_comment_at-clause-within : goal.returns-then-is_comment_at-clause-within
returns-then-is_comment_at-clause-within c = words_some c.args.text.now (grind (arith, nat_tests))
