use Rattle.textwrap_marked_laws.proofs.laws.nothing_is_lost.Goals as goal
use Rattle.textwrap_marked_laws.proofs.NewTexts.{read-whole, shown-same}

pub returns : goal.returns
returns c = λ options text reflowed is. shown-same options text reflowed (read-whole options text reflowed is)
