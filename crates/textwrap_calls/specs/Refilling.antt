-- What is reported of an unfilled text.
use Rattle.std.specs.Prelude.{◌≡◌, ℕ, [], ◌∷◌, length}
use Rattle.textwrap.specs.Options.{Settings}
use Rattle.textwrap_text.specs.declared.line_ending.LineEnding.{LineEnding}
use Rattle.textwrap_text.specs.declared.line_ending.LineEnding.TheVariants.{LF, CRLF}
use Rattle.textwrap_calls.specs.declared.refilling.TextwrapLayout.{TextwrapLayout}

-- the number of a line ending
abbrev pub ending_number : LineEnding → ℕ
ending_number LF = 0
ending_number CRLF = 1

-- what is reported of these settings
pub record IsLayout (settings : Settings) (layout : TextwrapLayout) : Type 0 where
  pub width : layout.width ≡ settings.width
  pub crlf : layout.crlf ≡ ending_number settings.line_ending
  pub initial : layout.initial_indent_len ≡ length settings.initial_indent
  pub subsequent : layout.subsequent_indent_len ≡ length settings.subsequent_indent
  pub reserved_sizes : layout.reserved_sizes ≡ 0 ∷ 0 ∷ 0 ∷ 0 ∷ []
