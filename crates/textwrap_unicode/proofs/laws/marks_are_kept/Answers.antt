use Rattle.textwrap_unicode.proofs.laws.marks_are_kept.Goals as goal
use Rattle.textwrap_unicode.proofs.RuleLemmas.{marked-after}

pub returns : goal.returns
returns c = marked-after
