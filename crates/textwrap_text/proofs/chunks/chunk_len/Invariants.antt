use Rattle.textwrap_text.proofs.chunks.chunk_len.Given as goal
use Rattle.textwrap_text.proofs.Common.{get_or, is_cut, length, false, ◌+◌, ◌-◌, ◌<◌, ◌≡◌, ◌≤◌, ℕ}

-- there is no cut before the end so far
abbrev pub invariant-loop-end : goal.invariant-loop-end
invariant-loop-end l = (0 < l.end) × (l.end ≤ length l.text)
    × ((k : ℕ) → k + 1 < l.end → is_cut (get_or l.text k 0) (get_or l.text (k + 1) 0) ≡ false)

abbrev pub decreases-loop-end : goal.decreases-loop-end
decreases-loop-end l = length l.text - l.end
