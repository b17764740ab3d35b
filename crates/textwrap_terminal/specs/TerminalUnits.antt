-- The units of a text as a terminal reads it, which are its visible characters and its sequences
-- (ECMA-48), and the text without the sequences that the library does not take as such.
use Rattle.std.specs.Prelude.{◌≡◌, ℕ, zero, suc, ◌+◌, ◌-◌, ◌<◌, ◌≤◌, Bool, true, false, not, ◌==◌, ◌&&◌}
use Rattle.std.specs.Prelude.{◌||◌, List, [], ◌∷◌, length, take, slice_index, if◌then◌else◌}
use Rattle.std.specs.Prelude.{chars, encode_utf8_all, filter, Option, None, Some, ⊤, ◌⊎◌}
use Rattle.std.specs.Int.{is_in_range}
use Rattle.std.specs.List.{flat_map, list_all}
use Rattle.textwrap_terminal.specs.declared.states.Part.{Part}
use Rattle.textwrap_terminal.specs.declared.states.Part.TheVariants.{Control, Command, Other}
use Rattle.textwrap_terminal.specs.declared.states.Part.TheVariants.{Intermediates}
use Rattle.textwrap_text.specs.Lists.{last}
use Rattle.textwrap_text.specs.Units as library
use Rattle.textwrap_text.specs.Units.{TextUnit, Visible, Sequence, characters, escape, is_control_end}
use Rattle.textwrap_text.specs.Units.{is_control_start, is_command_start, units_width, visible_of}

-- ---- what opens a sequence, and what is behind that

-- a control character of C1 in its 8-bit form (5.3)
abbrev pub is_control : ℕ → Bool
is_control = is_in_range 0x80 0x9F

-- a sequence begins with ESC, or with such a character
abbrev pub opens_sequence : ℕ → Bool
opens_sequence c = (c == escape) || is_control c

-- what a control character of C1 has behind it: CSI the rest of a control sequence (5.4), OSC that
-- of a command, and DCS, SOS, PM and APC that of another control string (5.6)
abbrev pub control_part : ℕ → Option Part
control_part c =
    if c == 0x9B then Some Control
    else if c == 0x9D then Some Command
    else if (c == 0x90) || (c == 0x98) || (c == 0x9E) || (c == 0x9F) then Some Other
    else None

-- a character that stands between ESC and the last character of its sequence (ECMA-35)
abbrev pub is_intermediate : ℕ → Bool
is_intermediate = is_in_range 0x20 0x2F

-- what is behind ESC and this character: more intermediates (ECMA-35), or what the control character
-- has that stands 64 places later, since ESC and a character from `@` to `_` are its 7-bit form (5.3)
abbrev pub escape_part : ℕ → Option Part
escape_part c = if is_intermediate c then Some Intermediates else control_part (c + 64)

-- ---- where it ends

-- ST, which is U+009C, or `\` directly after an ESC
abbrev pub is_terminator : ℕ → ℕ → Bool
is_terminator before c = (c == 0x9C) || ((before == escape) && (c == 92))

-- a character ends the part, where this one is before it
abbrev pub ends_in : Part → ℕ → ℕ → Bool
ends_in Control before c = is_control_end c
ends_in Command before c = (c == 7) || is_terminator before c
ends_in Other before c = is_terminator before c
ends_in Intermediates before c = not (is_intermediate c)

abbrev pub last_but_one : List ℕ → ℕ
last_but_one cs = slice_index cs (length cs - 2)

-- the last of these characters, which follow this one, passes a test of the one before it and it
abbrev pub last_passes : (ℕ → ℕ → Bool) → ℕ → List ℕ → Bool
last_passes test before [] = false
last_passes test before (c ∷ cs) = test (last_but_one (before ∷ c ∷ cs)) (last (before ∷ c ∷ cs))

-- the last of these characters, which follow this one, ends the part, unless one before it did; with
-- no part the sequence is whole without them
abbrev pub ends_behind : Option Part → ℕ → List ℕ → Bool
ends_behind None before cs = true
ends_behind (Some part) before cs = last_passes (ends_in part) before cs

abbrev pub ends_escape : List ℕ → Bool
ends_escape [] = false
ends_escape (c ∷ cs) = ends_behind (escape_part c) c cs

-- the last of these characters, which follow what opens a sequence, ends it, unless one before it
-- did, or the opening alone is whole
abbrev pub ends_sequence : ℕ → List ℕ → Bool
ends_sequence opening cs =
    if opening == escape then ends_escape cs else ends_behind (control_part opening) opening cs

-- ---- what a unit is

-- a visible character, or what opens a sequence and all characters up to the first that ends it
abbrev pub IsWholeUnit : TextUnit → Type 0
IsWholeUnit (Visible c) = opens_sequence c ≡ false
IsWholeUnit (Sequence cs) =
    (c : ℕ) × (body : List ℕ) × (cs ≡ c ∷ body) × (opens_sequence c ≡ true)
    × (ends_sequence c body ≡ true)
    × ((k : ℕ) → k < length body → ends_sequence c (take k body) ≡ false)

-- what opens a sequence, and characters of which none ends it
abbrev pub IsOpenUnit : TextUnit → Type 0
IsOpenUnit (Visible c) = ⊥
IsOpenUnit (Sequence cs) =
    (c : ℕ) × (body : List ℕ) × (cs ≡ c ∷ body) × (opens_sequence c ≡ true)
    × ((k : ℕ) → k ≤ length body → ends_sequence c (take k body) ≡ false)

-- each unit is whole, but the last may be a sequence without an end
abbrev pub AreTerminalUnits : List TextUnit → Type 0
AreTerminalUnits [] = ⊤
AreTerminalUnits (u ∷ []) = IsWholeUnit u ⊎ IsOpenUnit u
AreTerminalUnits (u ∷ v ∷ us) = IsWholeUnit u × AreTerminalUnits (v ∷ us)

-- the characters are those of these units
abbrev pub IsInTerminalUnits : List ℕ → List TextUnit → Type 0
IsInTerminalUnits cs us = (flat_map characters us ≡ cs) × AreTerminalUnits us

-- ---- the units, computed

-- how many of these characters are the fewest that pass, or all where no beginning of them does
abbrev pub first_len : List ℕ → (List ℕ → Bool) → ℕ
first_len [] passes = 0
first_len (c ∷ cs) passes =
    if passes [] then 0 else suc (first_len cs (λ front. passes (c ∷ front)))

-- the unit that begins with c, and how many of the characters after c it takes
abbrev pub first_unit_of : ℕ → List ℕ → TextUnit
first_unit_of c cs =
    if opens_sequence c then Sequence (c ∷ take (first_len cs (ends_sequence c)) cs) else Visible c

abbrev pub taken_by : ℕ → List ℕ → ℕ
taken_by c cs = if opens_sequence c then first_len cs (ends_sequence c) else 0

-- the units after the first n characters
abbrev pub terminal_units_past : ℕ → List ℕ → List TextUnit
terminal_units_past n [] = []
terminal_units_past zero (c ∷ cs) = first_unit_of c cs ∷ terminal_units_past (taken_by c cs) cs
terminal_units_past (suc n) (c ∷ cs) = terminal_units_past n cs

abbrev pub terminal_units : List ℕ → List TextUnit
terminal_units cs = terminal_units_past 0 cs

-- ---- width

-- the columns that a text, given by its bytes, takes on a terminal
abbrev pub terminal_width : List ℕ → ℕ
terminal_width bytes = units_width (terminal_units (chars bytes))

-- ---- the text for the library

-- a sequence with these characters begins with ESC and `[` or ESC and `]`, and the library ends it
-- with the last of them
abbrev pub is_common : List ℕ → Bool
is_common [] = false
is_common (c ∷ []) = false
is_common (c ∷ d ∷ cs) =
    (c == escape) && (is_control_start d || is_command_start d) && library.ends (d ∷ cs)

-- a visible character, or such a sequence
abbrev pub is_kept : TextUnit → Bool
is_kept (Visible c) = true
is_kept (Sequence cs) = is_common cs

-- the characters of those units that are kept
abbrev pub kept : List ℕ → List ℕ
kept cs = flat_map characters (filter is_kept (terminal_units cs))

-- a text, given by its bytes, without the sequences that the library does not take as such
abbrev pub without_other_sequences : List ℕ → List ℕ
without_other_sequences bytes = encode_utf8_all (kept (chars bytes))

-- there are none of them
abbrev pub has_no_other : List ℕ → Bool
has_no_other bytes = list_all is_kept (terminal_units (chars bytes))
