use Rattle.textwrap_marks.proofs.signs.any_column_word.Given as goal
use Rattle.textwrap_marks.proofs.Common.{spaced_words, list_any, ◌≡◌}
use Rattle.textwrap_marks.specs.Signs.{is_column_word}

-- none of the words so far passes
abbrev pub invariant-loop-word : goal.invariant-loop-word
invariant-loop-word l = list_any (λ w. is_column_word w.word) l.word-iterator
    ≡ list_any (λ w. is_column_word w.word) (spaced_words l.text)
