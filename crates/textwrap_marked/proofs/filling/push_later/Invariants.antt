use Rattle.textwrap_marked.proofs.filling.push_later.Given as goal
use Rattle.textwrap_marked.proofs.Common.{string_bytes, line_texts, piece_view, flat_map, drop, ◌++◌, map}
use Rattle.textwrap_marked.proofs.Common.{◌≡◌}

-- with the lines that are left, it is the whole
abbrev pub invariant-loop-i : goal.invariant-loop-i
invariant-loop-i l =
    string_bytes l.output ++ flat_map (λ text. (l.ending ++ l.hanging) ++ text)
    (line_texts l.justify l.room l.room
    (map (map piece_view) (map (λ line. line.now) (drop l.i l.lines))))
    ≡ string_bytes l.fn.output ++ flat_map (λ text. (l.ending ++ l.hanging) ++ text)
    (line_texts l.justify l.room l.room (map (map piece_view) (map (λ line. line.now) l.lines)))
