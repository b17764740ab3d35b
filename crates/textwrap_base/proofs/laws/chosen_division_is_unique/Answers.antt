use Rattle.textwrap_base.proofs.laws.chosen_division_is_unique.Goals as goal
use Rattle.textwrap_base.proofs.Cost.Results.{chosen_one}

pub returns : goal.returns
returns g c = chosen_one _
