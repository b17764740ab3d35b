use Rattle.std.proofs.lemmas.List.Elements.{All-push}
use Rattle.textwrap_hyphens.proofs.Common.{[], All, ap, length, map, map-append, subst, sym, ◌++◌, ◌∙◌, ◌∷◌}
use Rattle.textwrap_hyphens.specs.Building.{exception_of}
use Rattle.textwrap_patterns.specs.{Listed.exception_view, Places.AreInnerPlaces}
use Rattle.textwrap_patterns.specs.declared.entries.TrieEntry.{TrieEntry}
use Rattle.textwrap_hyphens.proofs.building.exception_entries.Goals as goal

pub loop-exception-preserved : goal.loop-exception-preserved
loop-exception-preserved g c =
    let entries = c.loop-exception.entries.items in
    let taken = c.loop-exception.yielded in
    let exception = c.in-Some.exception in
    let more = c.in_ok-push.ensures.items in
    let one : TrieEntry g.row.A.Denot = record { key = exception.letters; numbers = exception.places } in
    let Inner = λ (e : TrieEntry g.row.A.Denot). AreInnerPlaces (length e.key.items) e.numbers.items in
    record {
      entries = ap (map exception_of) more ∙ map-append exception_of entries (one ∷ [])
          ∙ ap (λ l. l ++ exception_view exception ∷ []) c.loop-exception.invariant.entries
          ∙ sym (map-append exception_view taken (exception ∷ []));
      inner = subst (All Inner) (sym more)
          (All-push Inner entries one c.loop-exception.invariant.inner exception.inner);
    }
