use Rattle.textwrap_hyphens.proofs.Common.{drop, map, max, ◌≡◌}
use Rattle.textwrap_hyphens.specs.{Building.pattern_of, Levels.longest}
use Rattle.textwrap_hyphens.proofs.building.longest_key.Given as goal

-- the longest key so far, and the longest of those to come, make the longest
abbrev pub invariant-loop-entry : goal.invariant-loop-entry
invariant-loop-entry g l =
    max l.longest (longest (map pattern_of (drop l.entry-index l.entries)))
    ≡ longest (map pattern_of l.entries)
