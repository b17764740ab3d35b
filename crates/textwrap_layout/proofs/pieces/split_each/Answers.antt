use Rattle.textwrap_layout.proofs.pieces.split_each.Goals as goal
use Rattle.textwrap_text.proofs.Common.{All, All-tail, [], ap, append-nil, append_assoc, map, subst}
use Rattle.textwrap_text.proofs.Common.{sym, text_width, ◌++◌, ◌∙◌, ◌∷◌, ◌≡◌}
use Rattle.textwrap_words.proofs.Common.{AreSplit, WordText, word_view}
use Rattle.textwrap_words.proofs.Word.Pieces.{AreSplit-push}

pub loop-word-init : goal.loop-word-init
loop-word-init g c =
    let words = sym c.into_iter-word-iterator.ensures.into_iter_gives in record {
      words = ([], words, ap (map word_view) c.new-pieces.ensures.items);
      measured = subst (All (λ (w : WordText). w.width ≡ text_width w.word)) words c.requires;
    }

pub loop-word-preserved : goal.loop-word-preserved
loop-word-preserved g c =
    let points = (g.P.Parts.may c.args.parts.now).Points in
    let word = word_view c.in-Some.word in
    let left = c.next.new.self in
    let step = c.in-Some.ensures.steps in
    let (before, words, split) = c.loop-word.invariant.words in
    let (found, are, pushed) = c.in_ok-push_pieces.ensures in
    record {
      words = (
        before ++ word ∷ [],
        words ∙ ap (λ ws. before ++ ws) step ∙ sym (append_assoc before (word ∷ []) left),
        subst (AreSplit points (before ++ word ∷ [])) (sym pushed) (AreSplit-push points before
            (map word_view c.loop-word.pieces.items) word found split are),
      );
      measured = All-tail (λ (w : WordText). w.width ≡ text_width w.word) word left
          (subst (All (λ (w : WordText). w.width ≡ text_width w.word)) step
          c.loop-word.invariant.measured);
    }

pub returns : goal.returns
returns g c =
    let (before, words, split) = c.loop-word.invariant.words in
    subst (λ ws. AreSplit (g.P.Parts.may c.args.parts.now).Points ws
    (map word_view c.loop-word.pieces.items))
    (sym (words ∙ ap (λ ws. before ++ ws) c.in-None.ensures.steps.0 ∙ append-nil before)) split
