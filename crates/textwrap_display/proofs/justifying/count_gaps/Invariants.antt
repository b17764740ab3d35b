use Rattle.textwrap_display.proofs.justifying.count_gaps.Given as goal
use Rattle.textwrap_display.proofs.Common.{chunks}
use Rattle.textwrap_text.proofs.Common.{length, ◌+◌, ◌≡◌}

-- the words so far, and those that are left, are all
abbrev pub invariant-loop-word : goal.invariant-loop-word
invariant-loop-word l = l.words + length l._word-iterator ≡ length (chunks l.text)
