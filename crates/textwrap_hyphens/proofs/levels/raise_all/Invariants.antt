use Rattle.std.proofs.Common.{ℕ, ◌≡◌, ◌<◌, get_or, length, max, min, ◌≤◌, ◌*◌}
use Rattle.textwrap_hyphens.{proofs.Raised.level_before, specs.Table.levels_by}
use Rattle.textwrap_hyphens.proofs.levels.raise_all.Given as goal

-- levels are raised to those of the patterns that stand at the places before this one, and at each of
-- these, but the one behind the last letter, so many letters were looked up at most
abbrev pub invariant-loop-at : goal.invariant-loop-at
invariant-loop-at l =
    record {
      levels : (k : ℕ) → k < length l.levels
          → get_or l.levels k 0 ≡ max (get_or l.initial.levels k 0)
          (level_before (levels_by l.patterns) l.whole l.at k);
      lookups : l.looked_up ≤ min l.at (length l.whole) * l.patterns.longest;
    }
