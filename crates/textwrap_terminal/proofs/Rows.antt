-- Worked rows: the units of a text, and what is left of it.
use Rattle.std.specs.Str.{chars}
use Rattle.textwrap_terminal.specs.TerminalUnits.{kept, terminal_units}
use Rattle.textwrap_text.proofs.Common.{List, map, refl, Sequence, Visible, ℕ, [], ◌∷◌, ◌≡◌}

-- `ESC ( B`, and a text that it begins
designation : terminal_units (27 ∷ 40 ∷ 66 ∷ 97 ∷ [])
    ≡ Sequence (27 ∷ 40 ∷ 66 ∷ []) ∷ Visible 97 ∷ []
designation = refl

-- DCS `a` BEL `b` and a string terminator, then `c`
device_string : terminal_units (27 ∷ 80 ∷ 97 ∷ 7 ∷ 98 ∷ 27 ∷ 92 ∷ 99 ∷ [])
    ≡ Sequence (27 ∷ 80 ∷ 97 ∷ 7 ∷ 98 ∷ 27 ∷ 92 ∷ []) ∷ Visible 99 ∷ []
device_string = refl

-- SOS and APC, with both string terminators
other_strings : terminal_units (27 ∷ 88 ∷ 97 ∷ 0x9C ∷ 98 ∷ 27 ∷ 95 ∷ 99 ∷ 27 ∷ 92 ∷ [])
    ≡ Sequence (27 ∷ 88 ∷ 97 ∷ 0x9C ∷ []) ∷ Visible 98 ∷ Sequence (27 ∷ 95 ∷ 99 ∷ 27 ∷ 92 ∷ []) ∷ []
other_strings = refl

-- CSI of 8 bits, `1 m`, and `a`
short_control : terminal_units (0x9B ∷ 49 ∷ 109 ∷ 97 ∷ [])
    ≡ Sequence (0x9B ∷ 49 ∷ 109 ∷ []) ∷ Visible 97 ∷ []
short_control = refl

-- OSC `a` with each of its three ends, of which the last is none for the library
abbrev command : List ℕ → List ℕ
command end = 27 ∷ 93 ∷ 97 ∷ end

commands : map kept (command (7 ∷ 98 ∷ []) ∷ command (27 ∷ 92 ∷ 98 ∷ [])
    ∷ command (0x9C ∷ 98 ∷ []) ∷ [])
    ≡ command (7 ∷ 98 ∷ []) ∷ command (27 ∷ 92 ∷ 98 ∷ []) ∷ (98 ∷ []) ∷ []
commands = refl

-- DCS and OSC without an end
open_ends : map kept ((97 ∷ 27 ∷ 80 ∷ 98 ∷ []) ∷ (97 ∷ 27 ∷ 93 ∷ 98 ∷ []) ∷ [])
    ≡ (97 ∷ []) ∷ (97 ∷ []) ∷ []
open_ends = refl

-- ESC twice is a sequence, and `[ m` behind it is text
two_escapes : terminal_units (27 ∷ 27 ∷ 91 ∷ 109 ∷ [])
    ≡ Sequence (27 ∷ 27 ∷ []) ∷ Visible 91 ∷ Visible 109 ∷ []
two_escapes = refl

-- `é`, given by its bytes, `ESC ( B`, `é`, `ESC [ m` and `é`
accents : kept (chars (195 ∷ 169 ∷ 27 ∷ 40 ∷ 66 ∷ 195 ∷ 169 ∷ 27 ∷ 91 ∷ 109 ∷ 195 ∷ 169 ∷ []))
    ≡ 233 ∷ 233 ∷ 27 ∷ 91 ∷ 109 ∷ 233 ∷ []
unfolding chars
accents = refl
