use Rattle.textwrap_layout.proofs.pieces.break_pieces.Goals as goal
use Rattle.textwrap_text.proofs.Common.{cond, ◌++◌, map, sym, ◌∙◌, ◌∷◌, ◌≡◌, [], ap}
use Rattle.textwrap_layout.proofs.Common.{fitting_pieces, frame_settings, front_pieces}
use Rattle.textwrap_layout.proofs.Common.{empty_word, word_view}
use Rattle.textwrap_layout.proofs.Paragraph.Pieces.{word_of-nil}

pub returns-then-not-frame : goal.returns-then-not-frame
returns-then-not-frame g c = rw c.if-not-frame.true

pub returns : goal.returns
returns g c =
    let settings = frame_settings c.args.frame.now in
    let split = map word_view c.args.split.items in
    let pieces = fitting_pieces settings split in
    let broken : map word_view c.in_ok-broken.broken.items ≡ pieces = c.in_ok-broken.ensures in
    let whole : map word_view c.if-not-is_empty.broken.items ≡ front_pieces settings ++ pieces =
    elim c.if-not-is_empty.branch [
      | goal.then-not-is_empty+in_ok-insert w ↦
          ap (map word_view) (ap (λ v. v.items) w.broken-is ∙ w.in_ok-insert.ensures.items)
          ∙ ap (λ x. x ∷ map word_view c.in_ok-broken.broken.items)
          (w.from.ensures ∙ word_of-nil) ∙ ap (λ ws. empty_word ∷ ws) broken
          ∙ ap (λ b. cond b [] (empty_word ∷ []) ++ pieces) (sym w.if-not-is_empty.true
          ∙ c.is_empty.ensures)
      | goal.else-not-is_empty w ↦
          ap (map word_view) (ap (λ v. v.items) w.broken-is) ∙ broken
          ∙ ap (λ b. cond b [] (empty_word ∷ []) ++ pieces) (sym w.if-not-is_empty.false
          ∙ c.is_empty.ensures)
    ] in
    whole ∙ ap (λ b. cond b (front_pieces settings ++ pieces) split) (sym c.if-not-frame.false)
