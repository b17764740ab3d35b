use Rattle.textwrap_text.proofs.Common.{drop, length, ◌++◌, ◌≡◌}
use Rattle.textwrap_patterns.specs.Changes.{barred_from}
use Rattle.textwrap_patterns.proofs.changes.barred_levels.Given as goal

-- what was read, and what is left, are all
abbrev pub invariant-loop-place : goal.invariant-loop-place
invariant-loop-place g l = record {
  levels : l.barred.items ++ barred_from l.region l.place (drop l.place l.levels)
      ≡ barred_from l.region 0 l.levels;
  count : length l.barred.items ≡ l.place;
}
