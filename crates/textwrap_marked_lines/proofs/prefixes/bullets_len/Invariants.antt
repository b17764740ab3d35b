use Rattle.textwrap_marked_lines.proofs.prefixes.bullets_len.Given as goal
use Rattle.textwrap_marks.proofs.Common.{spaced_words, length, ◌+◌, ◌≡◌}
use Rattle.textwrap_marked_lines.specs.Prefixes.{bullets_len}
use denote.Shadow.{shadow}
use denote.Text.{Utf8}

-- with the bullets that are left, they are all
abbrev pub invariant-loop-rest : goal.invariant-loop-rest
invariant-loop-rest l = shadow (Utf8 l.rest)
    × (l.len + length (spaced_words l.rest) ≡ length (spaced_words l.text))
    × (l.len + bullets_len (spaced_words l.rest) ≡ bullets_len (spaced_words l.text))

abbrev pub decreases-loop-rest : goal.decreases-loop-rest
decreases-loop-rest l = length l.rest
