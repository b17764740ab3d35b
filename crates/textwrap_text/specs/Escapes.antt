-- The states of the code that reads escape sequences, by what they say of the characters to come.
use Rattle.std.specs.Prelude.{ℕ, Bool, false, not, ◌==◌, List, if◌then◌else◌}
use Rattle.std.specs.List.{flat_map}
use Rattle.textwrap_text.specs.declared.escapes.State.{State}
use Rattle.textwrap_text.specs.declared.escapes.State.TheVariants.{Text, Escape, Control, Command}
use Rattle.textwrap_text.specs.Units.{escape, is_command_end, is_command_start, is_control_end}
use Rattle.textwrap_text.specs.Units.{is_control_start, escape_len, control_len, command_len}
use Rattle.textwrap_text.specs.Units.{units_past, visible_of}

-- the state after a character
abbrev pub next_of : State → ℕ → State
next_of Text c = if c == escape then Escape else Text
next_of Escape c =
    if is_control_start c then Control else if is_command_start c then Command c else Text
next_of Control c = if is_control_end c then Text else Control
next_of (Command last) c = if is_command_end last c then Text else Command c

-- whether the character is visible
abbrev pub shows : State → ℕ → Bool
shows Text c = not (c == escape)
shows _ c = false

-- how many of the characters to come belong to the sequence that is being read
abbrev pub taken_in : State → List ℕ → ℕ
taken_in Text cs = 0
taken_in Escape cs = escape_len cs
taken_in Control cs = control_len cs
taken_in (Command last) cs = command_len last cs

-- the visible ones among the characters to come
abbrev pub visible_in : State → List ℕ → List ℕ
visible_in state cs = flat_map visible_of (units_past (taken_in state cs) cs)
