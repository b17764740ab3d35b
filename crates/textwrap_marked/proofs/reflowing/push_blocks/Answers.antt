use Rattle.textwrap_marked.proofs.reflowing.push_blocks.Goals as goal
use Rattle.textwrap_marked.proofs.Common.{append-nil, lines_left, is_beside, blocks, refl, ◌++◌, ◌||◌, []}
use Rattle.textwrap_marked.proofs.Common.{map, sym, ◌∙◌, ◌≡◌, ap}
use Rattle.textwrap_marked.proofs.Common.{marked_line_view, append_assoc, AreOfBlocks, lines_ahead, subst}
use Rattle.textwrap_marked.proofs.LaidLemmas.{block-begins, laid-first, of-first}

pub loop-ahead-preserved : goal.loop-ahead-preserved
loop-ahead-preserved c = λ back laid.
    let options = c.args.options.now in
    let ending = c.args.ending.now in
    let line = marked_line_view c.in-Some.left.first in
    let rest = lines_ahead options c.in-Some.left.later in
    let block = map marked_line_view c.in_ok-block.block.items in
    let beside = c.loop-ahead.beside in
    let next = c.is_beside-next.result in
    let (front, of, bytes) = c.in_ok-push_block.ensures.laid_out in
    let begins : marked_line_view c.index-first.result.now ≡ line =
    ap marked_line_view c.index-first.ensures
    ∙ (block-begins c.in_ok-block.block.items line rest _ c.in_ok-block.ensures.block).1 in
    let told = c.is_beside-next.ensures options
    ∙ ap (λ l. is_beside l (blocks (lines_left options c.in_ok-block.after))) begins
    ∙ ap (λ ls. is_beside line (blocks ls)) c.in_ok-block.ensures.rest in
    let first = laid-first options ending beside next line rest block front back
    c.in_ok-block.ensures.block told
    (of-first options ending (beside || next) line rest block front c.in_ok-block.ensures.block of)
    (subst (λ ls. AreOfBlocks options ending next (blocks ls) back) c.in_ok-block.ensures.rest laid) in
    let (whole, all, is) = c.loop-ahead.invariant (front ++ back)
    (subst (λ a. AreOfBlocks options ending beside (blocks (lines_left options a)) (front ++ back))
    (sym c.in-Some.is) first) in
    (whole, all, ap (λ t. t ++ back) bytes ∙ append_assoc _ front back ∙ is)

pub returns-clause-laid_out : goal.returns-clause-laid_out
returns-clause-laid_out c =
    let options = c.args.options.now in
    let (whole, laid, bytes) = c.loop-ahead.invariant []
    (subst (λ a. AreOfBlocks options c.args.ending.now c.loop-ahead.beside (blocks (lines_left options a)) [])
    (sym c.in_default.is) refl) in
    (whole, laid, sym (append-nil _) ∙ bytes)
