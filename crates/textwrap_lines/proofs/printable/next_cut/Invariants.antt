use Rattle.textwrap_lines.proofs.printable.next_cut.Given as goal
use Rattle.textwrap_lines.proofs.Common.{as_splitter, is_cut_by, length, NoCutBetween, ◌-◌, ◌≤◌}

abbrev pub invariant-loop-place : goal.invariant-loop-place
invariant-loop-place g l = record {
  from : l.start ≤ l.place;
  within : l.place ≤ length l.text;
  none : NoCutBetween (is_cut_by (g.C.PrintableCuts.cuts l.cuts l.text)
      (as_splitter l.splitter) l.text) (l.start - 1) (l.place - 1);
}

abbrev pub decreases-loop-place : goal.decreases-loop-place
decreases-loop-place g l = length l.text - l.place
