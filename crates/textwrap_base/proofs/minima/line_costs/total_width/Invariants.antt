use Rattle.textwrap_base.proofs.minima.line_costs.total_width.Given as goal
use Rattle.textwrap_text.proofs.Common.{◌≡◌, ◌<◌, ◌^◌, take}
use Rattle.textwrap_base.proofs.Common.{total_width}

abbrev pub invariant-loop-fragment : goal.invariant-loop-fragment
invariant-loop-fragment g l = record {
  sum : l.total ≡ total_width g.T.Fragment.sizes (take l.fragment-index l.fragments);
  fits : l.total < 2 ^ 128;
}
