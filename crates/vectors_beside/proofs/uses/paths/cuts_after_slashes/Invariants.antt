use Rattle.vectors_beside.proofs.Common.{AreInnerCuts, get_or, length, ◌-◌, ◌<◌}
use Rattle.vectors_beside.proofs.uses.paths.cuts_after_slashes.Given as goal

-- the cuts so far, all before this offset
abbrev pub invariant-loop-cut : goal.invariant-loop-cut
invariant-loop-cut l = record {
  cuts : AreInnerCuts l.path l.cuts.items;
  before : get_or l.cuts.items (length l.cuts.items - 1) 0 < l.cut;
}
