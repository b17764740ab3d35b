-- A line of a text in the program, as a value.
use Rattle.textwrap_text.specs.TextLines.{EndedLine}
use Rattle.textwrap_text.specs.declared.text_lines.TextLine.{TextLine}

abbrev pub ended_line_view : TextLine → EndedLine
ended_line_view line = record { line = line.text.now; ending = line.ending }
