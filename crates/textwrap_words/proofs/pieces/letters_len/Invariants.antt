use Rattle.textwrap_words.proofs.pieces.letters_len.Given as goal
use Rattle.textwrap_text.proofs.Common.{slice_index, length, ◌+◌, ◌-◌, ◌<◌, ◌≤◌, ℕ}
use Rattle.textwrap_words.proofs.Common.{IsLetter}

abbrev pub invariant-loop-end : goal.invariant-loop-end
invariant-loop-end l = (l.at ≤ l.end) × (l.end ≤ length l.text) × (l.end ≤ l.at + l.most)
    × ((k : ℕ) → l.at ≤ k → k < l.end → IsLetter (slice_index l.text k))

abbrev pub decreases-loop-end : goal.decreases-loop-end
decreases-loop-end l = l.last - l.end
