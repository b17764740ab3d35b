use Rattle.textwrap_text.proofs.Common.{arith, rules}
use Rattle.textwrap_text.proofs.Numbers.{some_where, value_where}
use Rattle.textwrap_base.proofs.Search.{cost_from-asked, small_entry}
use Rattle.textwrap_base.proofs.minima.stretches.price.Goals as goal

pub unwrap-requires : goal.unwrap-requires
unwrap-requires g c = search (rules, arith, cost_from-asked, some_where, small_entry)

pub returns-clause-price : goal.returns-clause-price
returns-clause-price g c = search (rules, arith, cost_from-asked, value_where)
