use Rattle.std.proofs.Common.{◌≡◌, ◌-◌, ◌≤◌, length, map, take}
use Rattle.text_files.proofs.differences.common_len.Given as goal

-- so many lines are the same
abbrev pub invariant-loop-len : goal.invariant-loop-len
invariant-loop-len l = record {
  old : l.len ≤ length l.old;
  new : l.len ≤ length l.new;
  same : take l.len (map (λ line. line.now) l.old) ≡ take l.len (map (λ line. line.now) l.new);
}

abbrev pub decreases-loop-len : goal.decreases-loop-len
decreases-loop-len l = length l.old - l.len
