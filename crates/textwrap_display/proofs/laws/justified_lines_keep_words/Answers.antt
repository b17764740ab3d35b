use Rattle.textwrap_display.proofs.laws.justified_lines_keep_words.Goals as goal
use Rattle.textwrap_display.proofs.WidenedWords.{justified-words}

pub returns : goal.returns
returns c = justified-words
