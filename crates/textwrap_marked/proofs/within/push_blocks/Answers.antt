use Rattle.textwrap_marked.proofs.within.push_blocks.Goals as goal
use Rattle.textwrap_marked.proofs.Common.{AreOfBlocksWithin, marked_line_view, append_assoc, range_behind}
use Rattle.textwrap_marked.proofs.Common.{lines_ahead, append-nil, length-map, lines_left, is_beside, ap₂}
use Rattle.textwrap_marked.proofs.Common.{touches, blocks, length, subst, refl, ◌++◌, ◌||◌, map, not, sym}
use Rattle.textwrap_marked.proofs.Common.{◌+◌, ◌∙◌, ◌≡◌, [], ap}
use Rattle.textwrap_marked.proofs.LaidLemmas.{behind-none, of-first}
use Rattle.textwrap_marked.proofs.LaidLemmas.{touches-behind, block-begins, within-first, behind-more}

pub loop-ahead-init : goal.loop-ahead-init
loop-ahead-init c = (0, behind-none c.args.range, λ back laid. (back, laid, refl))

pub loop-ahead-preserved : goal.loop-ahead-preserved
loop-ahead-preserved c =
    let options = c.args.options.now in
    let ending = c.args.ending.now in
    let range = c.args.range in
    let line = marked_line_view c.in-Some.left.first in
    let rest = lines_ahead options c.in-Some.left.later in
    let block = map marked_line_view c.in_ok-block.block.items in
    let beside = c.loop-ahead.beside in
    let next = c.is_beside-next.result in
    let outside = not c.touches-is_outside.result in
    let (start, counted, becomes) = c.loop-ahead.invariant in
    let len : length c.as_slice-len.result.now ≡ length block = ap length c.as_slice-len.ensures.value
    ∙ sym (length-map c.in_ok-block.block.items marked_line_view) in (
      start + length block,
      c.behind-range.ensures ∙ ap₂ range_behind counted len ∙ behind-more range start (length block),
      λ back laid.
          let (front, of, bytes) = c.in_ok-push_block.ensures.laid_out in
          let begins : marked_line_view c.index-first.result.now ≡ line =
          ap marked_line_view c.index-first.ensures
          ∙ (block-begins c.in_ok-block.block.items line rest _ c.in_ok-block.ensures.block).1 in
          let told = c.is_beside-next.ensures options
          ∙ ap (λ l. is_beside l (blocks (lines_left options c.in_ok-block.after))) begins
          ∙ ap (λ ls. is_beside line (blocks ls)) c.in_ok-block.ensures.rest in
          let first = within-first options range ending start (start + length block) beside next outside line
          rest block front back
          c.in_ok-block.ensures.block told refl (ap not (c.touches-is_outside.ensures ∙ ap₂ (λ r n. touches r 0 n) counted len
          ∙ touches-behind range start (length block)))
          (of-first options ending (beside || next || outside) line rest block front
          c.in_ok-block.ensures.block of)
          (subst (λ ls. AreOfBlocksWithin options range ending (start + length block) next (blocks ls) back)
          c.in_ok-block.ensures.rest laid) in
          let (whole, all, is) = becomes (front ++ back)
          (subst (λ a. AreOfBlocksWithin options range ending start beside (blocks (lines_left options a))
          (front ++ back)) (sym c.in-Some.is) first) in
          (whole, all, ap (λ t. t ++ back) bytes ∙ append_assoc _ front back ∙ is),
    )

pub returns-clause-laid_out : goal.returns-clause-laid_out
returns-clause-laid_out c =
    let options = c.args.options.now in
    let (start, counted, becomes) = c.loop-ahead.invariant in
    let (whole, laid, bytes) = becomes []
    (subst (λ a. AreOfBlocksWithin options c.args.range c.args.ending.now start c.loop-ahead.beside
    (blocks (lines_left options a)) []) (sym c.in_default.is) refl) in
    (whole, laid, sym (append-nil _) ∙ bytes)
