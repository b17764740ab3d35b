use Rattle.textwrap_marked_lines.proofs.columns.columns.Given as goal
use Rattle.textwrap_marked_lines.specs.Columns.{columns_behind, text_columns}
use Rattle.textwrap_marks.{proofs.Common.◌≡◌, specs.Words.parts_behind_mark, specs.Words.bytes_left}

-- the columns behind what is left are those of the text
abbrev pub invariant-loop-rest : goal.invariant-loop-rest
invariant-loop-rest l = columns_behind l.at (parts_behind_mark 9 l.rest) ≡ text_columns l.text

abbrev pub decreases-loop-rest : goal.decreases-loop-rest
decreases-loop-rest l = bytes_left l.rest
