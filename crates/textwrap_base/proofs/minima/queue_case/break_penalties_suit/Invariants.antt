use Rattle.textwrap_base.proofs.minima.queue_case.break_penalties_suit.Given as goal
use Rattle.textwrap_text.proofs.Common.{◌≤◌, All, take}
use Rattle.textwrap_base.proofs.Common.{priced_by, queue_limit}

-- no break penalty so far passes the limit
abbrev pub invariant-loop-fragment : goal.invariant-loop-fragment
invariant-loop-fragment g l = All (λ x. (priced_by g.T.Fragment.sizes
    g.T.Fragment.own_break_penalty l.penalties x).break_penalty ≤ queue_limit)
    (take l.fragment-index l.fragments)
