use Rattle.textwrap_base.proofs.first_fit.wrap_first_fit.Given as goal
use Rattle.textwrap_text.proofs.Common.{◌<◌, ◌++◌, length, map, vec_len}
use Rattle.textwrap_base.proofs.Division.Greedy.{IsGreedyFrom}

-- the lines so far, and any greedy division of the rest, are a greedy division of all
abbrev pub invariant-loop-rest : goal.invariant-loop-rest
invariant-loop-rest g l = (0 < length l.fragments)
    × ((tail : _) → IsGreedyFrom g.T.Fragment.sizes l.line_widths (vec_len l.lines) l.rest tail
    → IsGreedyFrom g.T.Fragment.sizes l.line_widths 0 l.fragments
    (map (λ line. line.now) l.lines.items ++ tail))

abbrev pub decreases-loop-rest : goal.decreases-loop-rest
decreases-loop-rest g l = length l.rest
