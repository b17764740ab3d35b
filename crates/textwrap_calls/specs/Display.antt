-- Lines for display, as C has them.
use Rattle.std.specs.Prelude.{◌≡◌, ℕ, Bool, ◌<◌, ◌≤◌, ◌==◌, List, [], length, map, if◌then◌else◌}
use Rattle.textwrap.specs.Paragraph.{Built, Line, line_bytes}
use Rattle.textwrap_text.specs.Units.{text_width}
use Rattle.textwrap_display.specs.Shortening.{AreShortened, IsShortened}
use Rattle.textwrap_display.specs.declared.alignment.Alignment.{Alignment}
use Rattle.textwrap_display.specs.declared.alignment.Alignment.TheVariants.{Left, Right, Centre}

-- the alignment that a number stands for
abbrev pub alignment_of : ℕ → Alignment
alignment_of number =
    if number == 0 then Left else if number == 1 then Right else Centre

-- a line that is not wider than the width stays, and any other is cut
pub record IsShort (breaks : Bool) (width : ℕ) (placeholder line answer : List ℕ) : Type 0 where
  pub whole : text_width line ≤ width → answer ≡ line
  pub cut : width < text_width line → IsShortened breaks width placeholder line (Built answer)

-- so many of the lines at most: none, or all, or the first ones and the one after them cut
pub record AreShort (breaks : Bool) (most width : ℕ) (placeholder : List ℕ)
    (lines answer : List (List ℕ)) : Type 0 where
  pub none : most ≡ 0 → answer ≡ []
  pub whole : length lines ≤ most → answer ≡ lines
  pub cut : 0 < most → most < length lines → (short : List Line)
      × AreShortened breaks most width placeholder lines short × (answer ≡ map line_bytes short)
