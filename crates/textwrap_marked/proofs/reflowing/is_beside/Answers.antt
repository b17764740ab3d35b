use Rattle.textwrap_marked.proofs.reflowing.is_beside.Goals as goal
use Rattle.textwrap_marked.proofs.Common.{marked_line_view, lines_ahead, lines_left, is_beside, blocks}
use Rattle.textwrap_marked.proofs.{Common.sym, Common.◌∙◌, Common.ap, LaidLemmas.blocks-first}

pub returns-in-Some : goal.returns-in-Some
returns-in-Some c = λ options.
    let first = marked_line_view c.args.first.now in
    let ahead = c.in-Some.ahead in
    c.are_fields.ensures
    ∙ sym (ap (is_beside first) (ap (λ a. blocks (lines_left options a)) c.in-Some.is
    ∙ blocks-first (marked_line_view ahead.first) (lines_ahead options ahead.later)))
