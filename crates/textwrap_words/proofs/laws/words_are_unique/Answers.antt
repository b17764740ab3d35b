use Rattle.textwrap_words.proofs.laws.words_are_unique.Goals as goal
use Rattle.textwrap_words.proofs.Word.Words.{words_unique}

pub returns : goal.returns
returns c = words_unique
