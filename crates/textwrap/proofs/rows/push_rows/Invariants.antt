use Rattle.textwrap.proofs.rows.push_rows.Given as goal
use Rattle.textwrap.proofs.Common.{range_with_len, string_bytes, framed, ◌++◌, map, ◌≡◌}

-- the rows so far were added
abbrev pub invariant-loop-r : goal.invariant-loop-r
invariant-loop-r g l = map string_bytes l.rows.items ≡ map string_bytes l.fn.rows.items
    ++ map (λ r. framed l.frame (g.C.RowCells.texts l.cells r)) (range_with_len 0 l.r)
