use Rattle.textwrap_marked_laws.{proofs.NewParts.{fills-width, new-parts}, specs.Laws.FillsWidth}
use Rattle.textwrap_marked_laws.proofs.laws.justified_lines_are_as_wide.Goals as goal

pub returns : goal.returns
returns c = λ options text reflowed justify is.
    new-parts options (FillsWidth options) (fills-width options justify) text reflowed is
