use Rattle.std.proofs.Common.{◌-◌, ◌<◌, ◌≤◌, length, map}
use Rattle.text_files.{proofs.DiffHunks.HasPushed, specs.Differences.{IsNear, signed_view}}
use Rattle.text_files.proofs.differences.push_hunks.Given as goal

-- the hunks before this place were pushed, and the last one ends there
abbrev pub invariant-loop-at : goal.invariant-loop-at
invariant-loop-at g l = record {
  within : l.at ≤ length l.lines;
  old : l.old_start ≤ l.at;
  new : l.new_start ≤ l.at;
  far : 0 < l.at → l.at < length l.lines → ¬ IsNear (map signed_view l.lines) l.at;
  pushed : HasPushed (map signed_view l.lines) l.initial.text.items l.text.items l.at l.old_start
      l.new_start;
}

abbrev pub decreases-loop-at : goal.decreases-loop-at
decreases-loop-at g l = length l.lines - l.at
