use Rattle.textwrap_base.proofs.laws.table_division_is_unique.Goals as goal
use Rattle.textwrap_base.proofs.Cost.Results.{by_table_one}

pub returns : goal.returns
returns g c = by_table_one _
