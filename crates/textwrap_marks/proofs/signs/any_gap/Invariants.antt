use Rattle.textwrap_marks.proofs.signs.any_gap.Given as goal
use Rattle.textwrap_marks.proofs.Common.{spaced_words, list_any, ◌≡◌}
use Rattle.textwrap_marks.specs.Signs.{is_gap}

-- none of the words so far passes
abbrev pub invariant-loop-word : goal.invariant-loop-word
invariant-loop-word l = list_any (λ w. is_gap l.justify w) l.word-iterator
    ≡ list_any (λ w. is_gap l.justify w) (spaced_words l.text)
