use Rattle.textwrap_base.proofs.minima.table.minima_of.Given as goal
use Rattle.textwrap_text.proofs.Common.{◌≡◌, map, take}
use Rattle.textwrap_base.proofs.Common.{minimum_of}

abbrev pub invariant-loop-entry : goal.invariant-loop-entry
invariant-loop-entry g l = l.minima.items ≡ map minimum_of (take l.entry-index l.entries)
