use Rattle.textwrap_base.proofs.minima.queue_case.is_queue_case.Goals as goal
use Rattle.textwrap_text.proofs.Common.{rules}
use Rattle.textwrap_base.proofs.Common.{IsQueueCase, problem_of}
use Rattle.textwrap_base.proofs.Cost.{LineCosts.AreConvex-rising, QueueCase.SuitQueue-queue_case}

pub returns-then-break_penalties_suit-clause-convex : goal.returns-then-break_penalties_suit-clause-convex
returns-then-break_penalties_suit-clause-convex g c = λ yes.
    AreConvex-rising (problem_of g.T.Fragment c.args.penalties.now c.args.line_widths.now
    c.args.fragments.now) (c.closed_widths_never_fall.ensures.0 yes)

pub returns-then-break_penalties_suit-clause-suits : goal.returns-then-break_penalties_suit-clause-suits
returns-then-break_penalties_suit-clause-suits g c = λ yes.
    let case : IsQueueCase (problem_of g.T.Fragment c.args.penalties.now c.args.line_widths.now
    c.args.fragments.now) = search (rules, yes) in
    SuitQueue-queue_case _ case
