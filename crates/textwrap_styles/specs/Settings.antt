-- The parameters of a style (SGR, ECMA-48 8.3.117, and what terminals add): its settings, what each
-- of them sets or ends, and which of them are open.
use Rattle.std.specs.Prelude.{ℕ, zero, suc, ◌-◌, Bool, true, false, ◌&&◌, ◌||◌, ◌==◌, nat_eq}
use Rattle.std.specs.Prelude.{nat_le}
use Rattle.std.specs.Prelude.{nat_lt, List, [], ◌∷◌, length, drop, codes, bytes_eq, min}
use Rattle.std.specs.Prelude.{if◌then◌else◌}
use Rattle.std.specs.Char.{is_ascii_digit}
use Rattle.std.specs.Int.{is_in_range}
use Rattle.std.specs.List.{after_last, list_any, prefix_len, starts_with, take_while}
use Rattle.std.specs.Str.Parse.{digits_value}
use Rattle.textwrap_styles.specs.declared.settings.Kind.{Kind}
use Rattle.textwrap_styles.specs.declared.settings.Kind.TheVariants.{Background, Blink, Bold}
use Rattle.textwrap_styles.specs.declared.settings.Kind.TheVariants.{CrossedOut, Faint, Font, Gothic}
use Rattle.textwrap_styles.specs.declared.settings.Kind.TheVariants.{Foreground, Framed, Hidden}
use Rattle.textwrap_styles.specs.declared.settings.Kind.TheVariants.{Inverse, Italic, Overlined}
use Rattle.textwrap_styles.specs.declared.settings.Kind.TheVariants.{Reset, Underline, Unknown}
use Rattle.textwrap_styles.specs.declared.settings.Kind.TheVariants.{UnderlineColor, Upright, Weight}

-- ---- the number of a setting, by which the table knows it

-- the number that parameters begin with, 255 where it is greater: no number of the table is
unfoldable pub code : List ℕ → ℕ
code parameters = min 255 (digits_value 10 (take_while is_ascii_digit parameters))

-- what follows it
unfoldable pub details : List ℕ → List ℕ
details parameters = drop (prefix_len is_ascii_digit parameters) parameters

-- what a setting of this number sets or ends
unfoldable pub kind_of_code : ℕ → Kind
kind_of_code code =
    if code == 0 then Reset else if code == 1 then Bold else if code == 2 then Faint
    else if code == 22 then Weight else if code == 3 then Italic
    else if code == 20 then Gothic else if code == 23 then Upright
    else if (code == 4) || (code == 21) || (code == 24) then Underline
    else if (code == 5) || (code == 6) || (code == 25) then Blink
    else if (code == 7) || (code == 27) then Inverse
    else if (code == 8) || (code == 28) then Hidden
    else if (code == 9) || (code == 29) then CrossedOut
    else if is_in_range 10 19 code then Font
    else if is_in_range 30 39 code || is_in_range 90 97 code then Foreground
    else if is_in_range 40 49 code || is_in_range 100 107 code then Background
    else if (code == 51) || (code == 52) || (code == 54) then Framed
    else if (code == 53) || (code == 55) then Overlined
    else if (code == 58) || (code == 59) then UnderlineColor
    else Unknown

-- of these numbers, those that end what was set
unfoldable pub is_ending_code : ℕ → Bool
is_ending_code code =
    (code == 0) || (code == 10) || is_in_range 22 25 code || is_in_range 27 29 code || (code == 39)
    || (code == 49) || (code == 54) || (code == 55) || (code == 59)

-- and those that a colour follows
unfoldable pub is_color_code : ℕ → Bool
is_color_code code = (code == 38) || (code == 48) || (code == 58)

unfoldable pub is_unknown : Kind → Bool
is_unknown Unknown = true
is_unknown _ = false

-- ---- the settings of parameters

-- the first fields between semicolons, so many
abbrev pub fields : ℕ → List ℕ → List ℕ
fields n [] = []
fields n (c ∷ cs) =
    if c == 0x3B then (if nat_le n 1 then [] else c ∷ fields (n - 1) cs) else c ∷ fields n cs

-- how many of them a colour takes, by the number that follows 38, 48 or 58: three in `38;5;1`, five
-- in `38;2;1;2;3`, and none where they are not all there
unfoldable pub color_fields : List ℕ → ℕ → ℕ
color_fields parameters mode =
    let count = if mode == 2 then 5 else if mode == 5 then 3 else 0 in
    if nat_lt (length (fields (count - 1) parameters)) (length parameters) then count else 0

-- how many the first setting takes: none where the table does not know it. What colons follow is
-- one field: a colour, or the style of an underline
unfoldable pub taken_fields : List ℕ → ℕ
taken_fields parameters =
    let number = code parameters in
    let rest = details parameters in
    if starts_with nat_eq rest (codes ":")
    then (if (number == 4) || is_color_code number then 1 else 0)
    else if is_color_code number then color_fields parameters (code (drop 1 rest))
    else if is_unknown (kind_of_code number) then 0 else 1

-- the first setting: if the table does not know it, all that follows it may be its own
unfoldable pub first_setting : List ℕ → List ℕ
first_setting parameters =
    let count = taken_fields parameters in
    if count == 0 then parameters else fields count parameters

-- the settings behind so many bytes, of which each stands behind a semicolon
abbrev pub settings_past : ℕ → List ℕ → List (List ℕ)
settings_past n [] = []
settings_past zero (c ∷ cs) = first_setting cs ∷ settings_past (length (first_setting cs)) cs
settings_past (suc n) (c ∷ cs) = settings_past n cs

-- all of them
abbrev pub settings : List ℕ → List (List ℕ)
settings parameters = settings_past 0 (0x3B ∷ parameters)

-- ---- what a setting sets or ends

unfoldable pub kind_of : List ℕ → Kind
kind_of setting =
    if taken_fields setting == 0 then Unknown else kind_of_code (code setting)

-- whether it ends something: `4:0` does, too, whatever follows the 0
unfoldable pub is_end : List ℕ → Bool
is_end setting =
    let rest = details setting in
    if starts_with nat_eq rest (codes ":")
    then (code setting == 4) && (code (drop 1 rest) == 0)
    else is_ending_code (code setting)

unfoldable pub number : Kind → ℕ
number Reset = 0
number Bold = 1
number Faint = 2
number Weight = 3
number Italic = 4
number Gothic = 5
number Upright = 6
number Underline = 7
number Blink = 8
number Inverse = 9
number Hidden = 10
number CrossedOut = 11
number Font = 12
number Foreground = 13
number Background = 14
number Framed = 15
number Overlined = 16
number UnderlineColor = 17
number Unknown = 18

-- a later setting of a kind takes back one of the same kind, 22 takes back bold and faint, and 23
-- italic and Gothic
unfoldable pub takes_back : Kind → Kind → Bool
takes_back later earlier =
    (number later == number earlier)
    || (number later == number Weight)
    && ((number earlier == number Bold) || (number earlier == number Faint))
    || (number later == number Upright)
    && ((number earlier == number Italic) || (number earlier == number Gothic))

-- what the table does not know is taken back by the same alone
unfoldable pub replaces : List ℕ → List ℕ → Bool
replaces later earlier =
    if is_unknown (kind_of later) then bytes_eq later earlier
    else takes_back (kind_of later) (kind_of earlier)

-- ---- what is open after such settings

-- those that no later one takes back
abbrev pub latest : List (List ℕ) → List (List ℕ)
latest [] = []
latest (s ∷ ss) = if list_any (λ t. replaces t s) ss then latest ss else s ∷ latest ss

-- without those that end something, unless one before them is unknown, which they may end
abbrev pub in_effect : List (List ℕ) → List (List ℕ)
in_effect [] = []
in_effect (s ∷ ss) =
    if is_unknown (kind_of s) then s ∷ ss
    else if is_end s then in_effect ss else s ∷ in_effect ss

abbrev pub open_settings : List (List ℕ) → List (List ℕ)
open_settings before =
    in_effect (latest (after_last (λ s. number (kind_of s) == number Reset) before))
