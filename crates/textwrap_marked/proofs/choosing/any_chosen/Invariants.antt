use Rattle.textwrap_marked.proofs.choosing.any_chosen.Given as goal
use Rattle.textwrap_marked.proofs.Common.{lines_ahead, list_any, Some, ◌≡◌}
use Rattle.textwrap_marked_lines.specs.Reading.{bytes_ahead}

-- none of the lines so far is such
abbrev pub invariant-loop-ahead : goal.invariant-loop-ahead
invariant-loop-ahead l = list_any (λ line. line.chosen) (lines_ahead l.options l.ahead)
    ≡ list_any (λ line. line.chosen) (lines_ahead l.options (Some l.fn.all))

abbrev pub decreases-loop-ahead : goal.decreases-loop-ahead
decreases-loop-ahead l = bytes_ahead l.ahead
