use Rattle.textwrap_lines.proofs.steps.are_ends.Given as goal
use Rattle.textwrap_lines.proofs.Common.{drop, length, ◌↔◌}
use Rattle.textwrap_words.specs.Cuts.{AreNext}
use Rattle.textwrap_words.specs.LineEnds.{AreEnds, IsNextEnd}

-- the ends are right just if those that are left may follow the last one
abbrev pub invariant-loop-end : goal.invariant-loop-end
invariant-loop-end l = AreEnds l.pieces l.ends
    ↔ AreNext (IsNextEnd (length l.pieces)) (drop l.end-index l.ends) l.last
