use Rattle.textwrap_marks.proofs.signs.any_contains.Given as goal
use Rattle.textwrap_marks.proofs.Common.{spaced_words, contains, list_any, ◌≡◌}

-- none of the words so far passes
abbrev pub invariant-loop-word : goal.invariant-loop-word
invariant-loop-word l = list_any (λ w. contains l.part w.word) l.word-iterator
    ≡ list_any (λ w. contains l.part w.word) (spaced_words l.text)
