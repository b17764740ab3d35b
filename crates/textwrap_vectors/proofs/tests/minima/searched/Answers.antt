use Rattle.std.proofs.Common.{sym, subst, rules}
use Rattle.std.specs.Prelude.{IsTrue}
use Rattle.textwrap.specs.Queue.{SuitQueue}
use Rattle.textwrap_vectors.proofs.tests.minima.searched.Goals as goal

pub queue_search-requires : goal.queue_search-requires
queue_search-requires g c =
    let yes : IsTrue c.is_queue_case.result = search rules in
    record {
      suits = subst SuitQueue (sym c.in_ok-costs.ensures.costs) (c.is_queue_case.ensures.suits yes);
    }
