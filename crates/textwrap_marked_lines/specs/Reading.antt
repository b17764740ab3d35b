-- The lines and the blocks of a text that are still to be read.
use Rattle.std.specs.Prelude.{ℕ, ◌+◌, List, [], ◌∷◌, Option, Some, None}
use Rattle.textwrap_marked_lines.specs.Lines.{LineText, marked_line_view, read_lines, state_view}
use Rattle.textwrap_marked_lines.specs.Lines.{with_titles}
use Rattle.textwrap_marks.specs.Words.{bytes_left, parts_behind_mark}
use Rattle.textwrap_marked_lines.specs.declared.blocks.BlocksAhead.{BlocksAhead}
use Rattle.textwrap_marks.specs.declared.options.ReflowOptions.{ReflowOptions}
use Rattle.textwrap_marked_lines.specs.declared.reading.LinesAhead.{LinesAhead}

-- the line that was read, and those behind it; titles stand apart
abbrev pub lines_ahead : ReflowOptions → Option LinesAhead → List LineText
lines_ahead options None = []
lines_ahead options (Some ahead) =
    with_titles (marked_line_view ahead.line
    ∷ read_lines options (state_view ahead.state) (parts_behind_mark 10 ahead.rest))

-- how many bytes are left to be read, where one more stands for the line that was
abbrev pub bytes_ahead : Option LinesAhead → ℕ
bytes_ahead None = 0
bytes_ahead (Some ahead) = bytes_left ahead.rest + 1

-- the line that the next block begins with, and those behind it
abbrev pub lines_left : ReflowOptions → Option BlocksAhead → List LineText
lines_left options None = []
lines_left options (Some ahead) = marked_line_view ahead.first ∷ lines_ahead options ahead.later

-- how many bytes are left, where one more stands for the line that was read
abbrev pub measure_left : Option BlocksAhead → ℕ
measure_left None = 0
measure_left (Some ahead) = bytes_ahead ahead.later + 1
