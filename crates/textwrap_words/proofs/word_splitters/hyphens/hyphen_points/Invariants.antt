use Rattle.textwrap_words.proofs.word_splitters.hyphens.hyphen_points.Given as goal
use Rattle.textwrap_text.proofs.Common.{range_with_len, filter, length, ◌-◌, ◌≡◌, ◌≤◌}
use Rattle.textwrap_words.proofs.Common.{is_hyphen_point}

-- the points before this offset
abbrev pub invariant-loop-point : goal.invariant-loop-point
invariant-loop-point g l = record {
  points : l.points.items ≡ filter (is_hyphen_point l.word) (range_with_len 1 (l.point - 1));
  inside : l.point - 1 ≤ length l.word - 1;
}
