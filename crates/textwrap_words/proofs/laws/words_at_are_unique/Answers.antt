use Rattle.textwrap_words.proofs.laws.words_at_are_unique.Goals as goal
use Rattle.textwrap_words.proofs.Word.Offsets.{words_at-unique}

pub returns : goal.returns
returns c = words_at-unique
