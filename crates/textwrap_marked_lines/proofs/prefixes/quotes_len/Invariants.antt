use Rattle.textwrap_marked_lines.proofs.prefixes.quotes_len.Given as goal
use Rattle.textwrap_marks.proofs.Common.{spaced_words, length, ◌+◌, ◌≡◌}
use Rattle.textwrap_marked_lines.specs.Prefixes.{quotes_len}

-- with the marks that are left, they are all
abbrev pub invariant-loop-word : goal.invariant-loop-word
invariant-loop-word l = (l.len + length l.word-iterator ≡ length (spaced_words l.text))
    × (l.len + quotes_len l.word-iterator ≡ quotes_len (spaced_words l.text))
