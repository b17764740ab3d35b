use Rattle.textwrap.proofs.rows.row_len.Given as goal
use Rattle.textwrap.proofs.Common.{length, sum_by, take, min, ◌-◌, ◌^◌, ◌≡◌, ◌≤◌}

-- the bytes of the first cells
abbrev pub invariant-loop-c : goal.invariant-loop-c
invariant-loop-c g l =
    (l.len ≡ min (sum_by length (take l.c (g.C.RowCells.texts l.cells l.r))) (2 ^ 128 - 1))
    × (l.c ≤ l.columns)

abbrev pub decreases-loop-c : goal.decreases-loop-c
decreases-loop-c g l = l.columns - l.c
