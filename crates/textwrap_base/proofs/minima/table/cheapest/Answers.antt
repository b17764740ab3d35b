use Rattle.textwrap_base.proofs.minima.table.cheapest.Goals as goal
use Rattle.textwrap_text.proofs.Common.{arith, rules}
use Rattle.textwrap_base.proofs.Cost.Table.{best_more}

pub loop-start-preserved : goal.loop-start-preserved
loop-start-preserved g c = search (rules, arith, best_more)
