use Rattle.textwrap_marked.proofs.first_fit.OpenParagraph.push_words.Goals as goal
use Rattle.textwrap_marked.proofs.Common.{string_bytes, left, ◌++◌, map, sym, ◌∙◌, ap}

pub loop-word-preserved : goal.loop-word-preserved
loop-word-preserved c = λ words.
    c.in_ok-push.ensures (map (λ w. w.word) c.next.new.self ++ words)
    ∙ ap (λ ws. string_bytes c.loop-word.output ++ left c.args.form.now c.loop-word.self
    (map (λ w. w.word) ws ++ words)) (sym c.in-Some.ensures.steps)
    ∙ c.loop-word.invariant words
