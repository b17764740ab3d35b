use Rattle.textwrap.proofs.rows.row.Given as goal
use Rattle.textwrap.proofs.Common.{string_bytes, join_with, take, ◌++◌, ◌-◌, ◌≡◌, ◌≤◌}

-- the left gap and the first cells
abbrev pub invariant-loop-c : goal.invariant-loop-c
invariant-loop-c g l = (string_bytes l.row ≡ l.frame.left.now
    ++ join_with l.frame.middle.now (take l.c (g.C.RowCells.texts l.cells l.r))) × (l.c ≤ l.columns)

abbrev pub decreases-loop-c : goal.decreases-loop-c
decreases-loop-c g l = l.columns - l.c

abbrev pub invariant-loop-at : goal.invariant-loop-at
invariant-loop-at g l = string_bytes l.row ≡ l.frame.left.now
    ++ join_with l.frame.middle.now (take l.at (g.C.RowCells.texts l.cells l.r))
