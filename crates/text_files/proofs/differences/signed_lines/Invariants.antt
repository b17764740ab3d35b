use Rattle.std.proofs.Common.{◌≡◌, ◌⊎◌, [], ◌+◌, ◌-◌, ◌≤◌, length, map, take}
use Rattle.text_files.specs.Differences.{AreLean, AreSameOrAll, news, olds, signed_view}
use Rattle.text_files.proofs.differences.signed_lines.Given as goal

-- so many lines of either text were taken
abbrev pub invariant-loop-old_at : goal.invariant-loop-old_at
invariant-loop-old_at g l = record {
  old : l.old_at ≤ length l.old;
  new : l.new_at ≤ length l.new;
  olds : olds (map signed_view l.signed.items) ≡ take l.old_at (map (λ line. line.now) l.old);
  lean : AreLean (map signed_view l.signed.items);
  next : (l.signed.items ≡ []) ⊎ AreSameOrAll (map (λ line. line.now) l.old) l.old_at
      (map (λ line. line.now) l.new) l.new_at;
  news : news (map signed_view l.signed.items) ≡ take l.new_at (map (λ line. line.now) l.new);
}

abbrev pub decreases-loop-old_at : goal.decreases-loop-old_at
decreases-loop-old_at g l = (length l.old - l.old_at) + (length l.new - l.new_at)
