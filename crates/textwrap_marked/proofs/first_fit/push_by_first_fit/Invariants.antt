use Rattle.textwrap_marked.proofs.first_fit.push_by_first_fit.Given as goal
use Rattle.textwrap_marked.proofs.Common.{marked_line_view, words_of_lines, string_bytes, drop, left, map}
use Rattle.textwrap_marked.proofs.Common.{◌++◌, ◌≡◌}

-- with the words of the lines that are left, the whole stays the same
abbrev pub invariant-loop-line : goal.invariant-loop-line
invariant-loop-line l =
    string_bytes l.output ++ left l.form l.paragraph
    (words_of_lines (map marked_line_view (drop l.line-index l.lines)))
    ≡ string_bytes l.initial.output ++ left l.form l.initial.paragraph
    (words_of_lines (map marked_line_view l.lines))
