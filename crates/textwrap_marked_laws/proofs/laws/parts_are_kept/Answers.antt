use Rattle.textwrap_marked_laws.proofs.laws.parts_are_kept.Goals as goal
use Rattle.textwrap_marked_laws.proofs.NewTexts.{parts-same, read-whole}

pub returns : goal.returns
returns c = λ options text reflowed is. parts-same options text reflowed (read-whole options text reflowed is)
