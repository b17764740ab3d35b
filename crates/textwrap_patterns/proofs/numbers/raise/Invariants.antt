use Rattle.std.proofs.Common.{ℕ, ◌≡◌, ◌≤◌, ◌<◌, max, get_or}
use Rattle.textwrap_patterns.proofs.numbers.raise.Given as goal

-- the numbers before the place are raised, and the others are as they were
abbrev pub invariant-loop-i : goal.invariant-loop-i
invariant-loop-i l = record {
  raised : (k : ℕ) → k < l.i
      → get_or l.numbers k 0 ≡ max (get_or l.initial.numbers k 0) (get_or l.others k 0);
  left : (k : ℕ) → l.i ≤ k → get_or l.numbers k 0 ≡ get_or l.initial.numbers k 0;
}
