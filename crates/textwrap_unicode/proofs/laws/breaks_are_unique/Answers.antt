use Rattle.textwrap_unicode.proofs.laws.breaks_are_unique.Goals as goal
use Rattle.textwrap_unicode.proofs.TextBreaks.{breaks-unique}

pub returns : goal.returns
returns c = breaks-unique
