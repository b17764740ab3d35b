use Rattle.textwrap_marks.proofs.signs.char_count.Goals as goal
use Rattle.textwrap_marks.proofs.Common.{rules}
use Rattle.textwrap_text.proofs.Common.{chars_from_encodes}

pub returns : goal.returns
returns c = search (rules, chars_from_encodes)
