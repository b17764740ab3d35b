use Rattle.textwrap_text.proofs.ClassNames.{slice_index, false, true, ◌+◌, ◌-◌, ◌<◌, ◌≡◌, ◌≤◌, ℕ}
use Rattle.textwrap_unicode.proofs.Common.{is_unusual, ◌↔◌}
use Rattle.textwrap_unicode.proofs.pairs.is_block_usual.Given as goal

abbrev pub invariant-loop-offset : goal.invariant-loop-offset
invariant-loop-offset l =
    (l.all ≡ true) ↔ ((k : ℕ) → l.from ≤ k → k < l.from + l.offset
    → is_unusual (slice_index l.text (k - 1)) (slice_index l.text k) ≡ false)
