use Rattle.textwrap_base.proofs.optimal_fit.find_minima.Goals as goal
use Rattle.textwrap_text.proofs.Common.{refl}
use Rattle.textwrap_base.proofs.Cost.QueueCase.{queue_case-fits}

pub returns-then-is_queue_case-clause-ok_only : goal.returns-then-is_queue_case-clause-ok_only
returns-then-is_queue_case-clause-ok_only g c =
    queue_case-fits _ (c.if-is_queue_case.ensures.case.0 refl)
