-- Lines of a paragraph by where they stand in it.
use Rattle.std.specs.Prelude.{ℕ, ◌≤◌, ◌==◌, Bool, ◌&&◌, List, length, slice_range}
use Rattle.std.specs.Prelude.{if◌then◌else◌, IsCharBoundary}
use Rattle.textwrap_layout.specs.Paragraph.{assembled_line}
use Rattle.textwrap_layout.specs.Places.{CutLine, cut_line}
use Rattle.textwrap_layout.specs.declared.line_bounds.LineBounds.{LineBounds}

-- the text may be cut where the line begins, and before and after the whitespace at its end
pub record AreBounds (text : List ℕ) (bounds : LineBounds) : Type 0 where
  pub start : IsCharBoundary text bounds.start
  pub word : IsCharBoundary text bounds.word_end
  pub end : IsCharBoundary text bounds.end
  pub some : bounds.start ≤ bounds.word_end
  pub order : bounds.word_end ≤ bounds.end

-- the line that is cut there: with the whitespace at its end where that is kept, and no penalty
-- stands in its place
abbrev pub line_between : Bool → List ℕ → List ℕ → List ℕ → LineBounds → CutLine
line_between keeps_blanks text indent penalty bounds =
    cut_line bounds.start (assembled_line indent (slice_range text bounds.start
    (if (length penalty == 0) && keeps_blanks then bounds.end else bounds.word_end)) penalty)
