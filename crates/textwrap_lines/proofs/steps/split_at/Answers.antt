use Rattle.textwrap_lines.proofs.Common.{drop_more, word_view, drop_all, split_at, arith, tiled, ap}
use Rattle.textwrap_lines.proofs.Common.{map, ◌∙◌, ◌∷◌}
use Rattle.textwrap_lines.proofs.steps.split_at.Goals as goal
use Rattle.std.proofs.lemmas.List.Sorted.{IsNonDecreasingBy-drop}
use Rattle.textwrap_words.specs.Cuts.{IsNextCut}
use Rattle.textwrap_words.proofs.Word.Cuts.{inner-cuts, next-in_order}
use Rattle.textwrap_words.proofs.Word.Parts.{parts_between-tile}
use Rattle.textwrap_lines.proofs.InSteps.{HasSplit-cuts, HasSplit-fits, HasSplit-start}
use Rattle.textwrap_lines.proofs.InSteps.{HasSplit-end, HasSplit-next, HasSplit-word}

pub words_between-requires : goal.words_between-requires
words_between-requires g c = inner-cuts c.args.paragraph.now c.args.cuts.now c.requires.cuts

pub loop-word-init : goal.loop-word-init
loop-word-init g c = HasSplit-start c.args.paragraph.now c.args.points.now
    (map word_view c.deref-word-items.result.now) (map word_view c.new-pieces.result.items)
    (ap (map word_view) c.new-pieces.ensures.items)
    (ap (λ ws. tiled (map word_view ws)) c.deref-word-items.ensures.value
    ∙ ap tiled c.in_ok-words.ensures ∙ parts_between-tile c.args.cuts.now c.args.paragraph.now
    (inner-cuts c.args.paragraph.now c.args.cuts.now c.requires.cuts))

pub points_within-requires-clause-in_order : goal.points_within-requires-clause-in_order
points_within-requires-clause-in_order g c =
    IsNonDecreasingBy-drop (λ x. x) 1 (0 ∷ c.args.points.now)
    (next-in_order (IsNextCut c.args.paragraph.now) c.args.points.now 0
    (λ before after next. omega (arith, next.0)) c.requires.points)

pub points_within-requires-clause-fits : goal.points_within-requires-clause-fits
points_within-requires-clause-fits g c =
    let is = drop_more c.deref-word-items.result.now c.loop-word.word-index _
    c.loop-word-test.true in
    HasSplit-word (rw is at c.loop-word.invariant) (omega arith)

pub push_split-requires : goal.push_split-requires
push_split-requires g c =
    let is = drop_more c.deref-word-items.result.now c.loop-word.word-index _
    c.loop-word-test.true in
    HasSplit-cuts (rw is at c.loop-word.invariant)
    c.deref.result.now c.requires.points (c.deref.ensures.value ∙ c.in_ok-inner.ensures)

pub overflow_add-start-in-loop-word : goal.overflow_add-start-in-loop-word
overflow_add-start-in-loop-word g c =
    let is = drop_more c.deref-word-items.result.now c.loop-word.word-index _
    c.loop-word-test.true in
    HasSplit-fits (rw is at c.loop-word.invariant) (omega arith)

pub loop-word-preserved : goal.loop-word-preserved
loop-word-preserved g c =
    let is = drop_more c.deref-word-items.result.now c.loop-word.word-index _
    c.loop-word-test.true in
    HasSplit-next (rw is at c.loop-word.invariant)
    c.deref.result.now (map word_view c.push_split.new.pieces.items)
    (c.deref.ensures.value ∙ c.in_ok-inner.ensures) c.in_ok-push_split.ensures

pub returns : goal.returns
returns g c =
    let none = drop_all c.loop-word.word-index c.deref-word-items.result.now
    c.loop-word-test.false in
    HasSplit-end c.args.paragraph.now c.args.points.now _ _ _ (rw none at c.loop-word.invariant)
    ∙ ap (λ ws. split_at 0 c.args.points.now (map word_view ws)) c.deref-word-items.ensures.value
    ∙ ap (split_at 0 c.args.points.now) c.in_ok-words.ensures
