use Rattle.textwrap_layout.proofs.printable_cuts.BlankCutsPrintableCuts.are_told.Goals as goal
use Rattle.textwrap_words.proofs.Word.Parts.{blank-words}

pub returns : goal.returns
returns c = λ _ text printable. blank-words text
