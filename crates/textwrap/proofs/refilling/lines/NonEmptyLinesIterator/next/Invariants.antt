use Rattle.textwrap.proofs.refilling.lines.NonEmptyLinesIterator.next.Given as goal
use Rattle.textwrap.proofs.Common.{has_text, filter, length, ◌≡◌}

-- the lines that were passed over are empty
abbrev pub invariant-loop-line : goal.invariant-loop-line
invariant-loop-line l = filter has_text l.self-inside.0 ≡ l.fn.self

abbrev pub decreases-loop-line : goal.decreases-loop-line
decreases-loop-line l = length l.self-inside.0
