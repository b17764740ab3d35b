use Rattle.textwrap_more_calls.proofs.fragments.line_ends.Given as goal
use Rattle.textwrap_calls.proofs.Common.{drop, flat, length, map, ◌++◌, ◌+◌, ◌≡◌}
use Rattle.textwrap_more_calls.{proofs.Common.ends_of, specs.Fragments.line_ends_from}

-- the ends so far, and those of the lines that follow, are those of all lines; these have no more
-- fragments than there are
abbrev pub invariant-loop-line : goal.invariant-loop-line
invariant-loop-line g l = record {
  ends : l.ends.items ++ line_ends_from l.end (map (λ line. line.now) (drop l.line-index l.lines))
      ≡ ends_of (map (λ line. line.now) l.lines);
  room : l.end + length (flat (map (λ line. line.now) (drop l.line-index l.lines)))
      ≡ length l.fragments;
}
