use Rattle.textwrap_marked_lines.proofs.blocks.BlocksAhead.next.Given as goal
use Rattle.textwrap_marked_lines.specs.Reading.{lines_left}
use Rattle.textwrap_marks.proofs.Common.{◌++◌, ◌∷◌, ◌≡◌}
use Rattle.textwrap_text.proofs.Common.{map, ◌≤◌}
use Rattle.textwrap_marked_lines.specs.Lines.{marked_line_view}
use Rattle.textwrap_marked_lines.specs.Blocks.{behind_block, first_block}
use Rattle.textwrap_marked_lines.specs.Reading.{lines_ahead}
use Rattle.textwrap_text.proofs.Common.{Some}
use Rattle.textwrap_marked_lines.specs.Reading.{bytes_ahead}

-- with those of the block that are left, they are the block, and what is behind it stays
abbrev pub invariant-loop-later : goal.invariant-loop-later
invariant-loop-later l =
    let left = marked_line_view l.line ∷ lines_ahead l.options l.later in
    (map marked_line_view l.block.items ++ first_block left
    ≡ first_block (lines_left l.options (Some l.fn.self)))
    × (behind_block left ≡ behind_block (lines_left l.options (Some l.fn.self)))
    × (bytes_ahead l.later ≤ bytes_ahead l.fn.self.later)

abbrev pub decreases-loop-later : goal.decreases-loop-later
decreases-loop-later l = bytes_ahead l.later
