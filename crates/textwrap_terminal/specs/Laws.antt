-- The statements of the laws, each under a name that a caller can cite.
use Rattle.std.specs.Prelude.{◌≡◌, ◌↔◌, ℕ, List, IsUtf8}
use Rattle.textwrap_terminal.specs.TerminalUnits.{IsInTerminalUnits, terminal_units, terminal_width}
use Rattle.textwrap_terminal.specs.TerminalUnits.{without_other_sequences}
use Rattle.textwrap_text.specs.Units.{TextUnit, text_width}

-- a text has one list of units on a terminal, the computed one
abbrev pub TerminalUnitsAreUnique : Type 0
TerminalUnitsAreUnique =
    (cs : List ℕ) (us : List TextUnit) → IsInTerminalUnits cs us ↔ (us ≡ terminal_units cs)

-- what is left of a text has for the library the width that the text has on a terminal
abbrev pub StrippedTextsAreMeasured : Type 0
StrippedTextsAreMeasured = (text : List ℕ) → IsUtf8 text
    → text_width (without_other_sequences text) ≡ terminal_width text

-- and stays as it is
abbrev pub StrippedTextsStay : Type 0
StrippedTextsStay = (text : List ℕ) → IsUtf8 text
    → without_other_sequences (without_other_sequences text) ≡ without_other_sequences text
