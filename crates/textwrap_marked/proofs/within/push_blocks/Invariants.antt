use Rattle.textwrap_marked.proofs.within.push_blocks.Given as goal
use Rattle.textwrap_marked.proofs.Common.{AreOfBlocksWithin, range_behind, string_bytes, lines_left, List}
use Rattle.textwrap_marked.proofs.Common.{blocks, false, Some, ◌++◌, ◌≡◌, ℕ}
use Rattle.textwrap_marked_lines.specs.Reading.{measure_left}

-- behind so many lines, with whatever becomes of the blocks that are left, it is what becomes of all
abbrev pub invariant-loop-ahead : goal.invariant-loop-ahead
invariant-loop-ahead l = (start : ℕ) × (l.range ≡ range_behind l.fn.range start) × ((back : List ℕ)
    → AreOfBlocksWithin l.options l.fn.range l.ending start l.beside
    (blocks (lines_left l.options l.ahead)) back
    → (whole : List ℕ)
    × AreOfBlocksWithin l.options l.fn.range l.ending 0 false
    (blocks (lines_left l.options (Some l.fn.all))) whole
    × (string_bytes l.output ++ back ≡ string_bytes l.fn.output ++ whole))

abbrev pub decreases-loop-ahead : goal.decreases-loop-ahead
decreases-loop-ahead l = measure_left l.ahead
