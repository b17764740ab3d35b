-- Rows of cells between gaps.
use Rattle.std.specs.Prelude.{ℕ, ◌==◌, List, [], ◌++◌, if◌then◌else◌, replicate}
use Rattle.textwrap_text.specs.Blanks.{blank}
use Rattle.textwrap_text.specs.LineEnding.{join_with}
use Rattle.textwrap.specs.declared.rows.RowFrame.{RowFrame}
use Rattle.textwrap.specs.declared.rows.RowCell.{RowCell}

-- a row: its cells with a gap between each two, and spare blanks after them, between two gaps more
abbrev pub row_text : List ℕ → List ℕ → ℕ → List ℕ → List (List ℕ) → List ℕ
row_text left middle spare right cells =
    left ++ join_with middle cells ++ (replicate spare blank ++ right)

-- ---- the same of the program's values

abbrev pub framed : RowFrame → List (List ℕ) → List ℕ
framed frame = row_text frame.left.now frame.middle.now frame.spare frame.right.now

-- a text between blanks
abbrev pub cell_text : RowCell → List ℕ
cell_text cell = replicate cell.before blank ++ cell.text.now ++ replicate cell.after blank

-- the gap before a cell is the middle one, but before the first there is none
abbrev pub gap_before : ℕ → List ℕ → List ℕ
gap_before at middle = if at == 0 then [] else middle
