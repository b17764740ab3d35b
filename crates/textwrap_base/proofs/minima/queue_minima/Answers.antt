use Rattle.textwrap_text.proofs.Common.{arith, rules, subst, sym}
use Rattle.std.proofs.lemmas.Result.{IfOk-weaker}
use Rattle.textwrap_base.proofs.{Common.SuitQueue, Cost.QueueCase.SuitQueue-queue_case}
use Rattle.textwrap_base.proofs.Cost.Results.{reported-least_cost}
use Rattle.textwrap_base.proofs.minima.queue_minima.Goals as goal

pub queue_search-minima-requires : goal.queue_search-minima-requires
queue_search-minima-requires g c = record {
  suits = subst SuitQueue (sym c.in-Ok.ensures.costs)
      (SuitQueue-queue_case _ c.requires.case);
}

pub returns-clause-entries : goal.returns-clause-entries
returns-clause-entries g c = search (rules, arith, IfOk-weaker)

pub returns-clause-least : goal.returns-clause-least
returns-clause-least g c = grind (arith, IfOk-weaker, reported-least_cost, returns-clause-entries)
