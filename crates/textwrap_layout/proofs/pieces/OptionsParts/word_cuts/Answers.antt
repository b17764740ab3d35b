use Rattle.textwrap_layout.proofs.pieces.OptionsParts.word_cuts.Goals as goal
use Rattle.textwrap_text.proofs.Common.{subst, refl, sym}
use Rattle.textwrap_layout.proofs.Common.{words_unique, MaySeparate, words_of}

pub returns-in-AsciiSpace-clause-words : goal.returns-in-AsciiSpace-clause-words
returns-in-AsciiSpace-clause-words g c =
    subst (λ separator. MaySeparate separator c.args.paragraph.now (words_of c.args.paragraph.now))
    (sym c.in-AsciiSpace.is) ((words_unique c.args.paragraph.now (words_of c.args.paragraph.now)).1 refl)
