use Rattle.textwrap_marked_laws.proofs.laws.first_fit_keeps_to_width.Goals as goal
use Rattle.textwrap_marked_laws.proofs.NewParts.{within-width, new-parts}
use Rattle.textwrap_marked_laws.specs.Laws.{PartKeepsToWidth}

pub returns : goal.returns
returns c = λ options text reflowed fits.
    new-parts options (PartKeepsToWidth options) (within-width options fits) text reflowed
