use Rattle.textwrap_layout.proofs.pieces.find_words.Goals as goal
use Rattle.textwrap_words.proofs.Word.Cuts.{inner-cuts}

pub words_between-requires : goal.words_between-requires
words_between-requires g c =
    rw c.deref.ensures.value (inner-cuts c.args.paragraph.now c.in-Some.cuts.items
    (rw c.in-Some.is at c.in_ok-cuts.ensures.cuts))
