use Rattle.textwrap_marked_lines.proofs.hanging.any_opening.Given as goal
use Rattle.textwrap_marks.specs.Marks.{is_comment_opening}
use Rattle.textwrap_marks.specs.Words.{spaced_words}
use Rattle.textwrap_marks.proofs.Common.{list_any, ◌≡◌}

-- none of the words so far passes
abbrev pub invariant-loop-word : goal.invariant-loop-word
invariant-loop-word l = list_any (λ w. is_comment_opening w.word) l.word-iterator
    ≡ list_any (λ w. is_comment_opening w.word) (spaced_words l.text)
