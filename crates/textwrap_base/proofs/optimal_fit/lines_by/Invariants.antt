use Rattle.textwrap_base.proofs.optimal_fit.lines_by.Given as goal
use Rattle.textwrap_text.proofs.Common.{flat_map, reverse, length, drop, All, map, ◌≡◌, ◌≢◌, ◌≤◌}
use Rattle.textwrap_text.proofs.Common.{[]}
use Rattle.textwrap_base.proofs.Common.{FollowStarts, Minimum}

abbrev pub invariant-loop-end : goal.invariant-loop-end
invariant-loop-end g l = record {
  within : l.end ≤ length l.fragments;
  tiles : flat_map (λ line. line) (reverse (map (λ line. line.now) l.lines.items))
      ≡ drop l.end l.fragments;
  nonempty : All (λ line. line ≢ []) (reverse (map (λ line. line.now) l.lines.items));
  follow : FollowStarts (map (λ (m : Minimum). m.start) l.minima) l.end
      (reverse (map (λ line. line.now) l.lines.items));
}

abbrev pub decreases-loop-end : goal.decreases-loop-end
decreases-loop-end g l = l.end
