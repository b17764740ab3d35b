use Rattle.textwrap_dictionaries.proofs.Said.{made-written}
use Rattle.textwrap_dictionaries.specs.Entries.{hyphens_past, letters_between}
use Rattle.textwrap_patterns.specs.{Listed.exception_text, Places.are_places}
use Rattle.textwrap_text.proofs.Common.{ap₂, None, Some, if◌then◌else◌, nil_from_length, [], append-nil}
use Rattle.textwrap_text.proofs.Common.{ap, arith, drop, length, length-drop, sym, ◌++◌, ◌∙◌, ◌≡◌}
use Rattle.textwrap_dictionaries.proofs.entries.exception_of.Goals as goal

pub returns : goal.returns
returns g c =
    let word = c.args.word.now in
    let read = c.loop-ch.letters.items in
    let found = c.loop-ch.places.items in
    let end : drop c.loop-ch.ch-index word ≡ [] = nil_from_length _ (omega
    (arith, length-drop c.loop-ch.ch-index word, c.loop-ch-test.false)) in
    let letters = sym (append-nil read) ∙ ap (λ cs. read ++ letters_between cs) (sym end)
    ∙ c.loop-ch.invariant.letters in
    let places = sym (append-nil found)
    ∙ ap (λ cs. found ++ hyphens_past (length read) cs) (sym end) ∙ c.loop-ch.invariant.places in
    made-written read found c.exception.result c.exception.ensures.made c.exception.ensures.inner
    ∙ ap₂ (λ l p. if are_places (length l) 0 p then Some (exception_text l p) else None) letters
    places
