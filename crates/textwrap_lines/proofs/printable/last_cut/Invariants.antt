use Rattle.textwrap_lines.proofs.printable.last_cut.Given as goal
use Rattle.textwrap_lines.proofs.Common.{as_splitter, is_cut_by, NoCutBetween, ◌≤◌}

abbrev pub invariant-loop-place : goal.invariant-loop-place
invariant-loop-place g l = record {
  from : l.start ≤ l.place;
  within : l.place ≤ l.end;
  none : NoCutBetween (is_cut_by (g.C.PrintableCuts.cuts l.cuts l.text)
      (as_splitter l.splitter) l.text) l.place l.end;
}

abbrev pub decreases-loop-place : goal.decreases-loop-place
decreases-loop-place g l = l.place
