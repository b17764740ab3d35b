use Rattle.textwrap_marked_laws.proofs.laws.parts_are_kept_within.Goals as goal
use Rattle.textwrap_marked_laws.proofs.NewTexts.{read-within, parts-same}

pub returns : goal.returns
returns c = λ options range text reflowed is.
    parts-same options text reflowed (read-within options text reflowed range is)
