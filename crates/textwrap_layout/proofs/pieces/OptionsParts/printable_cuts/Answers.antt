use Rattle.textwrap_layout.proofs.pieces.OptionsParts.printable_cuts.Goals as goal
use Rattle.textwrap_text.proofs.Common.{subst, sym}
use Rattle.textwrap_layout.proofs.Common.{words_unique, MaySeparate}
use Rattle.textwrap_words.proofs.Word.Parts.{blank-words}

pub returns-in-AsciiSpace : goal.returns-in-AsciiSpace
returns-in-AsciiSpace g c = λ paragraph printable.
    subst (λ separator. MaySeparate separator paragraph _) (sym c.in-AsciiSpace.is)
    ((words_unique paragraph _).1 (sym (blank-words paragraph)))
