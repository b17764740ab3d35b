use Rattle.textwrap_marks.proofs.signs.first_word.Goals as goal
use Rattle.textwrap_marks.proofs.{Common.◌∙◌, WordCuts.first-word-is}

pub returns : goal.returns
returns c = c.split_word.ensures.word ∙ first-word-is c.args.text.now
