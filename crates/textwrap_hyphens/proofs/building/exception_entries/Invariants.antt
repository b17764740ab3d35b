use Rattle.textwrap_hyphens.{proofs.Common.{All, length, map, ◌≡◌}, specs.Building.exception_of}
use Rattle.textwrap_patterns.specs.{Listed.exception_view, Places.AreInnerPlaces}
use Rattle.textwrap_hyphens.proofs.building.exception_entries.Given as goal

abbrev pub invariant-loop-exception : goal.invariant-loop-exception
invariant-loop-exception g l = record {
  entries : map exception_of l.entries.items ≡ map exception_view l.yielded;
  inner : All (λ e. AreInnerPlaces (length e.key.items) e.numbers.items) l.entries.items;
}
