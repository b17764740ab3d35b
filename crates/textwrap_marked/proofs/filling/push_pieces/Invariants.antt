use Rattle.textwrap_marked.proofs.filling.push_pieces.Given as goal
use Rattle.textwrap_marked.proofs.Common.{string_bytes, piece_view, covered, drop, ◌++◌, map, ◌≡◌}

-- with the pieces that are left, it is the whole
abbrev pub invariant-loop-i : goal.invariant-loop-i
invariant-loop-i l =
    string_bytes l.output ++ covered (map piece_view (drop l.i l.line))
    ≡ string_bytes l.fn.output ++ covered (map piece_view l.line)
