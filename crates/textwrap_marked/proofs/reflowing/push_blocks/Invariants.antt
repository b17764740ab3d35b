use Rattle.textwrap_marked.proofs.reflowing.push_blocks.Given as goal
use Rattle.textwrap_marked.proofs.Common.{Some, ◌++◌, ℕ}
use Rattle.textwrap_marked.proofs.Common.{string_bytes, AreOfBlocks, lines_left, blocks, false, List, ◌≡◌}
use Rattle.textwrap_marked_lines.specs.Reading.{measure_left}

-- with whatever becomes of the blocks that are left, it is what becomes of all
abbrev pub invariant-loop-ahead : goal.invariant-loop-ahead
invariant-loop-ahead l = (back : List ℕ)
    → AreOfBlocks l.options l.ending l.beside (blocks (lines_left l.options l.ahead)) back
    → (whole : List ℕ)
    × AreOfBlocks l.options l.ending false (blocks (lines_left l.options (Some l.fn.all))) whole
    × (string_bytes l.output ++ back ≡ string_bytes l.fn.output ++ whole)

abbrev pub decreases-loop-ahead : goal.decreases-loop-ahead
decreases-loop-ahead l = measure_left l.ahead
