use Rattle.textwrap_hyphens.{proofs.Common.{map, pattern_view, ◌≡◌}, specs.Building.pattern_of}
use Rattle.textwrap_hyphens.proofs.building.pattern_entries.Given as goal

abbrev pub invariant-loop-pattern : goal.invariant-loop-pattern
invariant-loop-pattern g l = map pattern_of l.entries.items ≡ map pattern_view l.yielded
