use Rattle.textwrap_marked.proofs.pieces.joined_of.Given as goal
use Rattle.textwrap_marked.proofs.Common.{map, ◌≡◌}
use Rattle.textwrap_marked.proofs.Common.{marked_line_view, words_of_lines, joined_view, with_words, drop}

-- with the words of the lines that are left, they are all words
abbrev pub invariant-loop-line : goal.invariant-loop-line
invariant-loop-line l =
    with_words l.options l.starred (joined_view l.joined)
    (words_of_lines (map marked_line_view (drop l.line-index l.lines)))
    ≡ with_words l.options l.starred (joined_view l.initial.joined)
    (words_of_lines (map marked_line_view l.lines))
