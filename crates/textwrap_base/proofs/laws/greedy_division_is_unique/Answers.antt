use Rattle.textwrap_base.proofs.laws.greedy_division_is_unique.Goals as goal
use Rattle.textwrap_base.proofs.Division.Greedy.{greedy_unique}

pub returns : goal.returns
returns g c = greedy_unique g.T.Fragment.sizes
