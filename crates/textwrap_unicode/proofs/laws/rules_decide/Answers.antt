use Rattle.textwrap_unicode.proofs.laws.rules_decide.Goals as goal
use Rattle.textwrap_unicode.proofs.TextBreaks.{here-decides}

pub returns : goal.returns
returns c = λ numbers text front back next is_mandatory utf8 divided.
    here-decides numbers text front back next utf8 divided is_mandatory
