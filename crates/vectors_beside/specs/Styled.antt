-- Texts with styles beside one another, each of which shows what it shows by itself.
use Rattle.std.specs.Prelude.{◌≡◌, ℕ, List, [], ◌∷◌, map}
use Rattle.textwrap.specs.Paragraph.{Line, line_bytes}
use Rattle.textwrap_display.specs.Penned.{penned_lines, penned_text, plain_rendition}
use Rattle.textwrap_display.specs.Styled.{EachWithIndent, MayCarry}
use Rattle.textwrap_display.specs.Styles.{carried_lines}
use Rattle.textwrap_display.specs.Tables.{PartsMake, RowGaps, rows_of_cells, shape_of_parts}
use Rattle.vectors_beside.specs.Help.{left_column}

-- lines without indents, each so that it stands by itself
abbrev pub carried_cell : List (List ℕ) → List (List ℕ)
carried_cell lines = map line_bytes (carried_lines [] [] [] lines)

-- the lines of a text, carried: each character of a line shows in it what it shows where the lines
-- follow one another, if each escape sequence ends in its line
pub record IsStyledCell (width : ℕ) (text : List ℕ) (cell : List (List ℕ)) : Type 0 where
  pub lines : List Line
  pub wrapped : PartsMake (left_column width) text lines
  pub carried : cell ≡ carried_cell (map line_bytes lines)
  pub shown : EachWithIndent MayCarry [] [] (map line_bytes lines)
      → map (penned_text plain_rendition) cell
      ≡ penned_lines [] [] plain_rendition (map line_bytes lines)

-- two such cells, laid out
pub record AreStyledRows (gaps : RowGaps) (left_width right_width : ℕ) (left right : List ℕ)
    (rows : List (List ℕ)) : Type 0 where
  pub left_cell : List (List ℕ)
  pub right_cell : List (List ℕ)
  pub left_styled : IsStyledCell left_width left left_cell
  pub right_styled : IsStyledCell right_width right right_cell
  pub rows_are : rows ≡ rows_of_cells gaps
      (map shape_of_parts (left_column left_width ∷ left_column right_width ∷ []))
      (left_cell ∷ right_cell ∷ [])
