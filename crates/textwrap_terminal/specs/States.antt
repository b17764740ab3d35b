-- The states of the code that reads a text as a terminal does, by what they say of the characters
-- to come.
use Rattle.std.specs.Prelude.{ℕ, Bool, false, not, ◌==◌, if◌then◌else◌, Option, None, Some, ◌||◌, ◌&&◌}
use Rattle.textwrap_terminal.specs.TerminalUnits.{control_part, escape_part, ends_in, opens_sequence}
use Rattle.textwrap_terminal.specs.declared.states.{Part.Part, TerminalState.TerminalState}
use Rattle.textwrap_terminal.specs.declared.states.TerminalState.TheVariants.{Text, Escape, Inside}
use Rattle.textwrap_terminal.specs.declared.states.Part.TheVariants.{Control, Command}
use Rattle.textwrap_text.specs.Units.{escape, is_control_end, is_command_end}

-- the state before a part of a sequence
abbrev pub entered : Option Part → ℕ → TerminalState
entered None c = Text
entered (Some part) c = Inside part c

-- the state after a character
abbrev pub next_state : TerminalState → ℕ → TerminalState
next_state Text c = if c == escape then Escape else entered (control_part c) c
next_state Escape c = entered (escape_part c) c
next_state (Inside part last) c = if ends_in part last c then Text else Inside part c

-- whether the character is visible
abbrev pub is_shown : TerminalState → ℕ → Bool
is_shown Text c = not (opens_sequence c)
is_shown _ c = false

-- the library, too, ends a sequence with this character, if it takes the sequence as such
abbrev pub ends_common_part : Part → ℕ → ℕ → Bool
ends_common_part Control before c = is_control_end c
ends_common_part Command before c = is_command_end before c
ends_common_part _ before c = false

abbrev pub ends_common : TerminalState → ℕ → Bool
ends_common (Inside part last) c = ends_common_part part last c
ends_common _ c = false

-- a unit stays that begins with this character, by what is told of its last character
abbrev pub stays : ℕ → Bool → Bool
stays first is = is_shown Text first || ((first == escape) && is)
