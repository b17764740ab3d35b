-- The filled text.
use Rattle.std.specs.Prelude.{◌≡◌, ℕ, Bool, List, map}
use Rattle.textwrap_words.specs.Words.{WordText}
use Rattle.textwrap_words.specs.WrapAlgorithms.{Algorithm}
use Rattle.textwrap_text.specs.LineEnding.{ending_bytes, join_with}
use Rattle.textwrap_layout.specs.Options.{Settings, settings_at}
use Rattle.textwrap_layout.specs.Paragraph.{Line, line_bytes, DividesByDefault}
use Rattle.textwrap_layout.specs.Text.{AreTextLines}

-- the lines of a text, joined by the line ending
abbrev pub IsFilled : Settings → (Bool → List ℕ → List (List WordText) → Type 0)
    → List ℕ → List ℕ → Type 0
IsFilled settings Divides text filled =
    (lines : List Line) × AreTextLines settings Divides text lines
    × (filled ≡ join_with (ending_bytes settings.line_ending) (map line_bytes lines))

-- the text filled by these settings and this algorithm, with the default separator and splitter
abbrev pub IsFilledBy : Settings → Algorithm → List ℕ → List ℕ → Type 0
IsFilledBy settings algorithm = IsFilled settings (DividesByDefault settings algorithm)

-- the text filled at a width by an algorithm, all else by the defaults
abbrev pub IsFilledAt : ℕ → Algorithm → List ℕ → List ℕ → Type 0
IsFilledAt width algorithm = IsFilledBy (settings_at width) algorithm
