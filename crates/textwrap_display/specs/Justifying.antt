-- A line whose gaps between words are widened up to a width.
use Rattle.std.specs.Prelude.{ℕ, ◌-◌, ◌/◌, ◌%◌, ◌==◌, ◌||◌, ◌+◌, min, List, [], ◌∷◌, ◌++◌, length}
use Rattle.std.specs.Prelude.{take, drop, if◌then◌else◌}
use Rattle.std.specs.List.{prefix_len}
use Rattle.textwrap.specs.Columns.{blanks}
use Rattle.textwrap_layout.specs.Paragraph.{Line, Built, Slice}
use Rattle.textwrap_text.specs.Blanks.{is_blank}
use Rattle.textwrap_text.specs.Units.{text_width}
use Rattle.textwrap_words.specs.Words.{WordText, tiled, words_of}

-- how many blanks stand before the first word
abbrev pub indent_len : List ℕ → ℕ
indent_len line = prefix_len is_blank line

-- the words of the line, each with the blanks after it
abbrev pub line_words : List ℕ → List WordText
line_words line = words_of (drop (indent_len line) line)

-- the places between two words
abbrev pub gaps : List ℕ → ℕ
gaps line = length (line_words line) - 1

-- the words, each but the last with so many blanks more after it, and the first ones with one more
-- than that
abbrev pub widened_words : ℕ → ℕ → List WordText → List WordText
widened_words each extra [] = []
widened_words each extra (w ∷ []) = w ∷ []
widened_words each extra (w ∷ v ∷ words) =
    record w { whitespace = w.whitespace ++ blanks (each + min extra 1) }
    ∷ widened_words each (extra - 1) (v ∷ words)

-- the spare columns are divided evenly among the gaps, and what is left over goes to the first ones
abbrev pub justified : ℕ → List ℕ → Line
justified width line =
    let spare = width - text_width line in
    if (spare == 0) || (gaps line == 0) then Slice line
    else Built (take (indent_len line) line
    ++ tiled (widened_words (spare / gaps line) (spare % gaps line) (line_words line)))
