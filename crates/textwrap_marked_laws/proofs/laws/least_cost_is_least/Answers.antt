use Rattle.textwrap_marked_laws.{proofs.NewParts.{costs-least, new-parts}, specs.Laws.CostsLeast}
use Rattle.textwrap_marked_laws.proofs.laws.least_cost_is_least.Goals as goal

pub returns : goal.returns
returns c = λ options penalties text reflowed least.
    new-parts options (CostsLeast options penalties) (costs-least options penalties least) text reflowed
