use Rattle.std.proofs.Common.{ℕ, ◌<◌, ◌≤◌, map, not}
use Rattle.text_files.specs.Differences.{IsNearIf, signed_view}
use Rattle.text_files.proofs.differences.next_place.Given as goal

-- no line so far was one
abbrev pub invariant-loop-at : goal.invariant-loop-at
invariant-loop-at l =
    (k : ℕ) → k < l.at → l.from ≤ k → IsNearIf (not l.near) (map signed_view l.lines) k
