use Rattle.std.proofs.Common.{◌-◌, ◌<◌, ℕ, length, get_or}
use Rattle.std.specs.Prelude.{Contains, IsCharBoundary}
use Rattle.textwrap.specs.Cuts.{AreInnerCuts}
use Rattle.textwrap_vectors.proofs.functions.cut_characters.Given as goal

-- all cuts before this place
abbrev pub invariant-loop-place : goal.invariant-loop-place
invariant-loop-place l = record {
  cuts : AreInnerCuts l.line l.cuts.items;
  before : get_or l.cuts.items (length l.cuts.items - 1) 0 < l.place;
  all : (k : ℕ) → 0 < k → k < l.place → IsCharBoundary l.line k → Contains l.cuts.items k;
}
