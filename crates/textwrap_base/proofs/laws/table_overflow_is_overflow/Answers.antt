use Rattle.textwrap_text.proofs.Common.{rules, arith}
use Rattle.textwrap_base.proofs.laws.table_overflow_is_overflow.Goals as goal
use Rattle.textwrap_base.proofs.Cost.Results.{table_overflow-is}

pub returns : goal.returns
returns g c = search (rules, arith, table_overflow-is)
