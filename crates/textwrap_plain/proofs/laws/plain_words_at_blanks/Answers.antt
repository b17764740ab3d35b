use Rattle.textwrap_plain.proofs.laws.plain_words_at_blanks.Goals as goal
use Rattle.textwrap_plain.proofs.Wrapping.{plain-points}

pub returns : goal.returns
returns c = plain-points
