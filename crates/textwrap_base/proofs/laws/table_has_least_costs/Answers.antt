use Rattle.textwrap_base.proofs.laws.table_has_least_costs.Goals as goal
use Rattle.textwrap_base.proofs.Cost.Table.{table-is_table}

pub returns : goal.returns
returns c = table-is_table
