use Rattle.textwrap_marked.proofs.pieces.JoinedWords.push_words.Goals as goal
use Rattle.textwrap_marked.proofs.Common.{joined_view, with_words, ◌++◌, map, sym, ◌∙◌, ap}
use Rattle.textwrap_marked.proofs.PieceLemmas.{joined-next}

pub loop-word-preserved : goal.loop-word-preserved
loop-word-preserved c = λ words.
    let options = c.args.options.now in
    let before = joined_view c.loop-word.self in
    let left = map (λ w. w.word) c.next.new.self ++ words in
    ap (λ j. with_words options c.args.starred j left) c.in_ok-push.ensures
    ∙ joined-next options c.args.starred before _ left
    ∙ ap (λ ws. with_words options c.args.starred before (map (λ w. w.word) ws ++ words))
    (sym c.in-Some.ensures.steps)
    ∙ c.loop-word.invariant words
