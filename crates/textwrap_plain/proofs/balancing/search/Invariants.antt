use Rattle.textwrap.proofs.Common.{layout_view, ◌-◌, ◌<◌, ◌^◌, ◌≤◌}
use Rattle.textwrap_plain.{proofs.Balance.Search.IsBetween, specs.Options.points_by}
use Rattle.textwrap_plain.proofs.balancing.search.Given as goal

-- the balanced width is between the two, and at most half of the widths are left after each filling
abbrev pub invariant-loop-low : goal.invariant-loop-low
invariant-loop-low g l = record {
  between : IsBetween (layout_view l.layout) (g.W.PrintableCuts.words l.parts.words)
      (points_by l.parts.splitter) l.text l.low l.high;
  within : l.fillings ≤ 65;
  left : l.high - l.low < 2 ^ (65 - l.fillings);
}

abbrev pub decreases-loop-low : goal.decreases-loop-low
decreases-loop-low g l = l.high - l.low
