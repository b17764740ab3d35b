use Rattle.std.proofs.Common.{◌+◌, ◌-◌, ◌≤◌, length, map}
use Rattle.text_files.specs.Differences.{HasFirstPlaces, IsNearestBefore, place_in}
use Rattle.text_files.proofs.differences.change_lens.Given as goal

-- the lines before this place are noted, and the nearest that both have of them is known
abbrev pub invariant-loop-at : goal.invariant-loop-at
invariant-loop-at g l = record {
  old : l.removed ≤ length l.old;
  new : l.added ≤ length l.new;
  olds : HasFirstPlaces (map (λ line. line.now) l.old) l.at (place_in l.olds);
  news : HasFirstPlaces (map (λ line. line.now) l.new) l.at (place_in l.news);
  nearest : IsNearestBefore l.at (map (λ line. line.now) l.old) (map (λ line. line.now) l.new) l.removed
      l.added;
}

abbrev pub decreases-loop-at : goal.decreases-loop-at
decreases-loop-at g l = l.removed + l.added - l.at
