use Rattle.vectors_beside.proofs.Common.{IsUtf8-string_bytes, on_ok_weaker, string_bytes}
use Rattle.vectors_beside.proofs.uses.notes.fill_note.Goals as goal

pub returns-clause-wrapped : goal.returns-clause-wrapped
returns-clause-wrapped c =
    let note = c.args.note.now in
    on_ok_weaker c.fill_inplace.result (λ filled.
    c.filled_in_place_is_wrapped.ensures.wrapped c.args.width (string_bytes note)
    (string_bytes c.fill_inplace.new.text) (IsUtf8-string_bytes note) filled)
    c.fill_inplace.ensures.filled
