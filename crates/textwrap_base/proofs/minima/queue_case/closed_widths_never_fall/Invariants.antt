use Rattle.textwrap_base.proofs.minima.queue_case.closed_widths_never_fall.Given as goal
use Rattle.textwrap_text.proofs.Common.{ℕ, ◌+◌, ◌<◌, ◌≤◌, take}
use Rattle.textwrap_base.proofs.Common.{closed_width}

abbrev pub invariant-loop-last : goal.invariant-loop-last
invariant-loop-last g l = (j : ℕ) → 0 < j → j < l.last
    → closed_width g.T.Fragment.sizes (take j l.fragments)
    ≤ closed_width g.T.Fragment.sizes (take (j + 1) l.fragments)
