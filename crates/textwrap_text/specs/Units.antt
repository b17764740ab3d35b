-- The units of a text, which are its visible characters and its escape sequences (ECMA-48), and
-- the width of a text in columns.
use Rattle.std.specs.Prelude.{◌≡◌, ◌≢◌, ℕ, zero, suc, ◌-◌, ◌<◌, ◌≤◌, Bool, true, false, ◌==◌, ◌&&◌}
use Rattle.std.specs.Prelude.{◌||◌, List, [], ◌∷◌, length, take, slice_index, if◌then◌else◌}
use Rattle.std.specs.Prelude.{unwrap_or, chars, sum_by, encode_utf8, encode_utf8_all, filter}
use Rattle.std.specs.Prelude.{nat_lt, All, ⊤, ◌⊎◌}
use Rattle.std.specs.Int.{is_in_range}
use Rattle.std.specs.List.{flat_map}
use Rattle.textwrap_text.specs.Lists.{last}
use Rattle.unicode_width.specs.Width.{char_width}

-- ---- what a unit is

-- a visible character, or the characters of an escape sequence
pub data TextUnit : Type 0 where
  Visible : ℕ → TextUnit
  Sequence : List ℕ → TextUnit

abbrev pub characters : TextUnit → List ℕ
characters (Visible c) = c ∷ []
characters (Sequence cs) = cs

abbrev pub escape : ℕ
escape = 27

-- `[` begins a control sequence, which a character from `@` to `~` ends
abbrev pub is_control_start : ℕ → Bool
is_control_start c = c == 91

abbrev pub is_control_end : ℕ → Bool
is_control_end = is_in_range 0x40 0x7E

-- `]` begins an operating system command, which BEL ends, or `\` directly after an ESC
abbrev pub is_command_start : ℕ → Bool
is_command_start c = c == 93

abbrev pub is_command_end : ℕ → ℕ → Bool
is_command_end before c = (c == 7) || ((before == escape) && (c == 92))

-- the last of these characters, which follow an ESC, ends its sequence, unless one before it did
abbrev pub ends : List ℕ → Bool
ends [] = false
ends (c ∷ cs) =
    if is_control_start c then is_control_end (last cs)
    else if is_command_start c then is_command_end (slice_index cs (length cs - 2)) (last cs)
    else true

-- a visible character, or ESC and all characters up to the first that ends the sequence
abbrev pub IsWhole : TextUnit → Type 0
IsWhole (Visible c) = c ≢ escape
IsWhole (Sequence cs) =
    (body : List ℕ) × (cs ≡ escape ∷ body) × (ends body ≡ true)
    × ((k : ℕ) → k < length body → ends (take k body) ≡ false)

-- ESC, and characters of which none ends the sequence
abbrev pub IsOpen : TextUnit → Type 0
IsOpen (Visible c) = ⊥
IsOpen (Sequence cs) =
    (body : List ℕ) × (cs ≡ escape ∷ body)
    × ((k : ℕ) → k ≤ length body → ends (take k body) ≡ false)

-- each unit is whole, but the last may be a sequence without an end
abbrev pub AreUnits : List TextUnit → Type 0
AreUnits [] = ⊤
AreUnits (u ∷ []) = IsWhole u ⊎ IsOpen u
AreUnits (u ∷ v ∷ us) = IsWhole u × AreUnits (v ∷ us)

-- the characters are those of these units
abbrev pub IsInUnits : List ℕ → List TextUnit → Type 0
IsInUnits cs us = (flat_map characters us ≡ cs) × AreUnits us

-- ---- the units, computed

-- how many characters belong to a control sequence after its `[`
abbrev pub control_len : List ℕ → ℕ
control_len [] = 0
control_len (c ∷ cs) = if is_control_end c then 1 else suc (control_len cs)

-- how many belong to a command after a character of it
abbrev pub command_len : ℕ → List ℕ → ℕ
command_len before [] = 0
command_len before (c ∷ cs) = if is_command_end before c then 1 else suc (command_len c cs)

-- how many belong to a sequence after its ESC
abbrev pub escape_len : List ℕ → ℕ
escape_len [] = 0
escape_len (c ∷ cs) =
    if is_control_start c then suc (control_len cs)
    else if is_command_start c then suc (command_len c cs)
    else 1

-- the unit that begins with c, and how many of the characters after c it takes
abbrev pub unit_at : ℕ → List ℕ → TextUnit
unit_at c cs = if c == escape then Sequence (c ∷ take (escape_len cs) cs) else Visible c

abbrev pub taken_at : ℕ → List ℕ → ℕ
taken_at c cs = if c == escape then escape_len cs else 0

-- the units after the first n characters
abbrev pub units_past : ℕ → List ℕ → List TextUnit
units_past n [] = []
units_past zero (c ∷ cs) = unit_at c cs ∷ units_past (taken_at c cs) cs
units_past (suc n) (c ∷ cs) = units_past n cs

abbrev pub units : List ℕ → List TextUnit
units cs = units_past 0 cs

-- ---- what is visible, and width

abbrev pub visible_of : TextUnit → List ℕ
visible_of (Visible c) = c ∷ []
visible_of (Sequence cs) = []

-- the visible characters among these
abbrev pub visible : List ℕ → List ℕ
visible cs = flat_map visible_of (units cs)

-- a text, given by its bytes, without its escape sequences
abbrev pub stripped : List ℕ → List ℕ
stripped bytes = encode_utf8_all (visible (chars bytes))

-- the columns of a character by itself, 0 where it has no width
abbrev pub columns : ℕ → ℕ
columns c = unwrap_or (char_width false c) 0

-- the columns of a unit
abbrev pub unit_width : TextUnit → ℕ
unit_width (Visible c) = columns c
unit_width (Sequence cs) = 0

abbrev pub units_width : List TextUnit → ℕ
units_width us = sum_by unit_width us

-- the columns of a text, given by its bytes
abbrev pub text_width : List ℕ → ℕ
text_width bytes = sum_by columns (visible (chars bytes))

-- no character of the text takes more columns than its bytes
abbrev pub IsNarrow : List ℕ → Type 0
IsNarrow bytes = All (λ c. columns c ≤ length (encode_utf8 c)) (chars bytes)

-- the visible characters of the text that take columns
abbrev pub column_characters : List ℕ → List ℕ
column_characters bytes = filter (λ c. nat_lt 0 (columns c)) (visible (chars bytes))

-- a printable character of ASCII, which takes one byte and one column
abbrev pub IsPrintableByte : ℕ → Type 0
IsPrintableByte c = (32 ≤ c) × (c < 127)

-- a text of such characters alone
abbrev pub IsPrintable : List ℕ → Type 0
IsPrintable text = All IsPrintableByte text
