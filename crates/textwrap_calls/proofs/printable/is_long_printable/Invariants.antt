use Rattle.textwrap_calls.proofs.printable.is_long_printable.Given as goal
use Rattle.textwrap_calls.proofs.Common.{ℕ, ◌-◌, ◌≤◌, ◌<◌, length, slice_index, IsPrintableByte}

-- the blocks so far are printable
abbrev pub invariant-loop-end : goal.invariant-loop-end
invariant-loop-end l = record {
  within : l.end ≤ length l.text;
  printable : (k : ℕ) → k < l.end → IsPrintableByte (slice_index l.text k);
}

abbrev pub decreases-loop-end : goal.decreases-loop-end
decreases-loop-end l = length l.text - l.end
