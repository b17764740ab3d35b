-- Worked rows, by computation, on what no public call gives by itself: the lines that are not empty,
-- each with its ending, and the inner width of columns.
use Rattle.std.specs.Str.{chars}
use Rattle.unicode_width.specs.Width.{char_width}
use Rattle.textwrap_text.proofs.Common.{◌≡◌, ◌∷◌, [], codes, refl, None, Some}
use Rattle.textwrap_text.specs.declared.line_ending.LineEnding.TheVariants.{CRLF, LF}
use Rattle.textwrap.specs.Columns.{inner_width}
use Rattle.textwrap.specs.Refilling.{nonempty_lines}

nonempty_lines-endings : nonempty_lines (codes "LF\nCRLF\r\n\r\n\nend")
    ≡ record { line = codes "LF"; ending = Some LF } ∷ record { line = codes "CRLF"; ending = Some CRLF }
    ∷ record { line = codes "end"; ending = None } ∷ []
nonempty_lines-endings = refl

-- what the gaps leave is divided among the columns
inner_width-left : inner_width 21 4 (codes "|") (codes "|") (codes "|") ≡ 16
unfolding chars char_width
inner_width-left = refl

-- the gaps of so many columns take more than there is
inner_width-none : inner_width 80 9223372036854775809 [] (codes "xx") [] ≡ 0
unfolding chars char_width
inner_width-none = refl
