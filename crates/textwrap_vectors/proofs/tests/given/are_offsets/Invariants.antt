use Rattle.std.proofs.Common.{ℕ, ◌+◌, ◌<◌, get_or}
use Rattle.std.specs.Prelude.{IsCharBoundary}
use Rattle.textwrap_vectors.proofs.tests.given.are_offsets.Given as goal

-- what the offsets before this one keep to
abbrev pub invariant-loop-i : goal.invariant-loop-i
invariant-loop-i l = record {
  increasing : (k : ℕ) → k + 1 < l.i → get_or l.offsets k 0 < get_or l.offsets (k + 1) 0;
  boundaries : (k : ℕ) → k < l.i → IsCharBoundary l.text (get_or l.offsets k 0);
}
