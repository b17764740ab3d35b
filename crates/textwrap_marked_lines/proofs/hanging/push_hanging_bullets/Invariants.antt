use Rattle.textwrap_marked_lines.proofs.hanging.push_hanging_bullets.Given as goal
use Rattle.textwrap_marked_lines.specs.Hanging.{hanging_bullets}
use Rattle.textwrap_marks.specs.Words.{spaced_words}
use Rattle.textwrap_text.proofs.Common.{string_bytes}
use Rattle.textwrap_marks.proofs.Common.{◌++◌, ◌≡◌}

-- with the words that are left, it is the whole
abbrev pub invariant-loop-word : goal.invariant-loop-word
invariant-loop-word l = string_bytes l.output ++ hanging_bullets l.word-iterator
    ≡ string_bytes l.fn.output ++ hanging_bullets (spaced_words l.text)
