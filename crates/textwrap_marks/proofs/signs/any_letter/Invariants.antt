use Rattle.textwrap_marks.proofs.signs.any_letter.Given as goal
use Rattle.textwrap_marks.proofs.Common.{spaced_words, has_letter, list_any, ◌≡◌}

-- none of the words so far passes
abbrev pub invariant-loop-word : goal.invariant-loop-word
invariant-loop-word l = list_any (λ w. has_letter w.word) l.word-iterator
    ≡ list_any (λ w. has_letter w.word) (spaced_words l.text)
