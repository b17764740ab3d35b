use Rattle.textwrap_calls.proofs.columns.place_rows.Goals as goal
use Rattle.textwrap_calls.proofs.Common.{◌∷◌, ◌++◌, [], ap, ◌∙◌, map, sym, map_push, string_bytes}
use Rattle.textwrap_calls.proofs.PlaceLemmas.{ArePlacedRows-push}

pub loop-row-preserved : goal.loop-row-preserved
loop-row-preserved c =
    ArePlacedRows-push (map string_bytes c.loop-row.yielded) c.deref.result.now
    (ap (λ bytes. map string_bytes c.loop-row.yielded ++ bytes ∷ []) c.deref.ensures
    ∙ sym (map_push string_bytes c.loop-row.yielded c.in-Some.row)) c.loop-row.invariant
    c.in_ok-push_built.ensures.places c.in_ok-push_built.ensures.built
