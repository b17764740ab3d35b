-- The lines of a text, each with its ending.
use Rattle.std.specs.Prelude.{ℕ, ◌==◌, List, [], ◌∷◌, ◌++◌, length, map, if◌then◌else◌, Option}
use Rattle.std.specs.Prelude.{None, Some}
use Rattle.std.specs.List.{slice_split}
use Rattle.std.specs.Str.Lines.{strip_carriage_return}
use Rattle.textwrap_text.specs.Lists.{last}
use Rattle.textwrap_text.specs.LineEnding.{carriage_return, ending_bytes, line_feed}
use Rattle.textwrap_text.specs.declared.line_ending.LineEnding.{LineEnding}
use Rattle.textwrap_text.specs.declared.line_ending.LineEnding.TheVariants.{CRLF, LF}

-- a line, and what ends it
pub record EndedLine : Type 0 where
  pub line : List ℕ
  pub ending : Option LineEnding

-- what stands before a line feed, less one carriage return
abbrev pub line_before_feed : List ℕ → EndedLine
line_before_feed part = record {
  line = strip_carriage_return part;
  ending = Some (if last part == carriage_return then CRLF else LF);
}

-- the lines in the parts between line feeds: an empty last part is no line
abbrev pub ended_lines_of : List (List ℕ) → List EndedLine
ended_lines_of [] = []
ended_lines_of (part ∷ []) =
    if length part == 0 then [] else record { line = part; ending = None } ∷ []
ended_lines_of (part ∷ next ∷ parts) = line_before_feed part ∷ ended_lines_of (next ∷ parts)

-- std's lines, each with its ending
abbrev pub ended_lines : List ℕ → List EndedLine
ended_lines text = ended_lines_of (slice_split (λ b. b == line_feed) text)

-- the bytes of the ending, if there is one
abbrev pub bytes_at_end : Option LineEnding → List ℕ
bytes_at_end None = []
bytes_at_end (Some ending) = ending_bytes ending

-- the line as it stands in the text
abbrev pub with_ending : EndedLine → List ℕ
with_ending l = l.line ++ bytes_at_end l.ending

-- a text, cut after each line feed
abbrev pub ended_parts : List ℕ → List (List ℕ)
ended_parts text = map with_ending (ended_lines text)
