use Rattle.textwrap_marked.proofs.first_fit.OpenParagraph.push.Goals as goal
use Rattle.textwrap_marked.proofs.Common.{append_assoc, fitting_view, string_bytes, option_map, blank, []}
use Rattle.textwrap_marked.proofs.Common.{◌++◌, sym, ◌∙◌, ◌∷◌, ap}
use Rattle.textwrap_marked.proofs.FirstFitLines.{read-kept, read-cut}
use Rattle.textwrap_marked.proofs.first_fit.OpenParagraph.push.Goals.{else-is_cut_behind}
use Rattle.textwrap_marked.proofs.first_fit.OpenParagraph.push.Goals.{then-is_cut_behind+in_ok-take}

pub returns : goal.returns
returns c = λ words.
    let form = c.args.form.now in
    let word = c.args.word.now in
    let line = fitting_view c.args.self.now.line in
    let last = option_map (λ w. w.now) c.args.self.now.last in
    let piece = string_bytes c.args.self.now.piece in
    let more = c.in_ok-push_str-2.ensures.bytes
    ∙ ap (λ t. t ++ blank ∷ []) c.in_ok-push_str.ensures.bytes in
    elim c.if-is_cut_behind.branch [
      | then-is_cut_behind+in_ok-take w ↦ rw (w.self-is, w.output-is) (
          read-cut form line _ last piece w.deref.result.now _ word _ _
          (sym c.is_cut_behind.ensures ∙ w.if-is_cut_behind.true) w.deref.ensures
          (more ∙ ap (λ t. (t ++ word) ++ blank ∷ []) (ap (λ p. string_bytes p.piece) w.self-is ∙ w.clear.ensures.bytes))
          w.in_ok-take.ensures words)
      | else-is_cut_behind w ↦ rw (w.self-is, w.output-is) (
          read-kept form line last piece _ word _ (sym c.is_cut_behind.ensures ∙ w.if-is_cut_behind.false)
          (more ∙ ap (λ p. (string_bytes p.piece ++ word) ++ blank ∷ []) w.self-is
          ∙ append_assoc piece word (blank ∷ [])) words)
    ]
