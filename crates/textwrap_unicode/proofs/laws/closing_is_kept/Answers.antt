use Rattle.textwrap_unicode.proofs.laws.closing_is_kept.Goals as goal
use Rattle.textwrap_unicode.proofs.RuleLemmas.{closing-after}

pub returns : goal.returns
returns c = closing-after
