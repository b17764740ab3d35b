use Rattle.textwrap_marked.proofs.filling.push_ends.Given as goal
use Rattle.textwrap_marked.proofs.Common.{marked_line_view, string_bytes, drop, ◌++◌, map, ◌≡◌}
use Rattle.textwrap_marked.specs.Reflow.{filled_ends}

-- with the lines that are left, it is the whole
abbrev pub invariant-loop-line : goal.invariant-loop-line
invariant-loop-line l =
    string_bytes l.output ++ filled_ends l.ending (map marked_line_view (drop l.line-index l.lines))
    ≡ string_bytes l.fn.output ++ filled_ends l.ending (map marked_line_view l.lines)
