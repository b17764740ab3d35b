use Rattle.textwrap_marked_laws.proofs.laws.nothing_is_lost_within.Goals as goal
use Rattle.textwrap_marked_laws.proofs.NewTexts.{read-within, shown-same}

pub returns : goal.returns
returns c = λ options range text reflowed is.
    shown-same options text reflowed (read-within options text reflowed range is)
