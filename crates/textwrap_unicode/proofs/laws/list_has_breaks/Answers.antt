use Rattle.textwrap_unicode.proofs.laws.list_has_breaks.Goals as goal
use Rattle.textwrap_unicode.proofs.TextBreaks.{contains-break}

pub returns : goal.returns
returns c = λ numbers text place utf8. contains-break numbers text utf8 place
