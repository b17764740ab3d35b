use Rattle.textwrap_text.proofs.ClassNames.{slice_index, length, true, ◌+◌, ◌-◌, ◌<◌, ◌≡◌, ◌≤◌, ℕ}
use Rattle.textwrap_unicode.specs.WordStarts.{IsPlainLetter}
use Rattle.textwrap_unicode.proofs.cuts.letters_len.Given as goal

abbrev pub invariant-loop-len : goal.invariant-loop-len
invariant-loop-len l =
    (l.from + l.len ≤ length l.rest) × (l.is_behind_other ≡ true → l.len ≡ 0)
    × ((k : ℕ) → k < l.len → IsPlainLetter (slice_index l.rest (l.from + k)))

abbrev pub decreases-loop-len : goal.decreases-loop-len
decreases-loop-len l = length l.rest - l.len
