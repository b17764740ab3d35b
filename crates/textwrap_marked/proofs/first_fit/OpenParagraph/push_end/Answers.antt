use Rattle.textwrap_marked.proofs.first_fit.OpenParagraph.push_end.Goals as goal
use Rattle.textwrap_marked.proofs.Common.{fitting_view, string_bytes, cond, ◌++◌, sym, ◌∙◌, ◌∷◌, [], ap}
use Rattle.textwrap_marked.proofs.first_fit.OpenParagraph.push_end.Goals.{else-is_some}
use Rattle.textwrap_marked.proofs.first_fit.OpenParagraph.push_end.Goals.{then-is_some+in_ok-take}
use Rattle.textwrap_marked.{proofs.FirstFitLines.words-end, specs.FirstFit.left_of_pieces}

pub returns : goal.returns
returns c =
    let form = c.args.form.now in
    let line = fitting_view c.args.self.now.line in
    let piece = string_bytes c.args.self.now.piece in
    let before = string_bytes c.args.output.now in
    let ends = words-end form.options.now form.starred (λ w. w.now) c.args.self.now.last piece in
    c.in_ok-push_str.ensures.bytes ∙ ap (λ t. string_bytes c.if-is_some.output ++ t) c.deref-2.ensures
    ∙ elim c.if-is_some.branch [
      | then-is_some+in_ok-take w ↦ rw (w.self-is, w.output-is) (w.in_ok-take.ensures []
          ∙ ap (λ p. before ++ left_of_pieces form line (p ∷ [])) w.deref.ensures
          ∙ ap (λ ps. before ++ left_of_pieces form line ps) (sym (ends
          ∙ ap (λ b. cond b (piece ∷ []) []) (sym c.is_some.ensures ∙ w.if-is_some.true))))
      | else-is_some w ↦ rw (w.self-is, w.output-is) (ap (λ ps. before ++ left_of_pieces form line ps)
          (sym (ends ∙ ap (λ b. cond b (piece ∷ []) []) (sym c.is_some.ensures ∙ w.if-is_some.false))))
    ]
