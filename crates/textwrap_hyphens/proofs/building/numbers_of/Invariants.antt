use Rattle.textwrap_hyphens.proofs.Common.{take, ◌≡◌}
use Rattle.textwrap_hyphens.proofs.building.numbers_of.Given as goal

abbrev pub invariant-loop-level : goal.invariant-loop-level
invariant-loop-level g l = l.numbers.items ≡ take l.level-index l.levels
