use Rattle.textwrap_text.proofs.printable.printable_blocks_len.Given as goal
use Rattle.textwrap_text.proofs.Common.{IsPrintableByte, slice_index, length, ◌-◌, ◌<◌, ◌≤◌, ℕ}

abbrev pub invariant-loop-end : goal.invariant-loop-end
invariant-loop-end l =
    (l.end ≤ length l.text) × ((k : ℕ) → k < l.end → IsPrintableByte (slice_index l.text k))

abbrev pub decreases-loop-end : goal.decreases-loop-end
decreases-loop-end l = length l.text - l.end
