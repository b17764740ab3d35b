use Rattle.std.proofs.{Common.sym, Common.◌∙◌, lemmas.Slice.Eq.bytes_eq-Decides}
use Rattle.textwrap_patterns.proofs.ListsWithin.{list-stays}
use Rattle.textwrap_patterns.proofs.lists.is_list.Goals as goal

pub returns : goal.returns
returns c = λ same more.
    list-stays c.args.words.now c.args.numbers.now more c.args.place c.if-place-words.false
    c.if-words-place.false (sym c.numbers_at.ensures
    ∙ (bytes_eq-Decides c.numbers_at.result.now c.args.numbers.now).0 (sym c.eq.ensures ∙ same))
