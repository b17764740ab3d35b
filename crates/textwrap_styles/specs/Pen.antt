-- What a terminal writes with, and what the parameters of a style do to that: SGR (ECMA-48 8.3.117),
-- with the colours of ISO 8613-6 (38, 48 and 58, by 5 and 2) and what terminals add (4:3, 53, 58, 90
-- to 107). Said by itself, from the number of each parameter: it cites none of the library's
-- settings.
use Rattle.std.specs.Prelude.{ℕ, ◌-◌, Bool, true, false, not, ◌&&◌, ◌||◌, ◌==◌, List, [], ◌∷◌, ◌++◌}
use Rattle.std.specs.Prelude.{length, drop, fold, get_or, map, if◌then◌else◌}
use Rattle.std.specs.Int.{is_in_range}
use Rattle.std.specs.Str.Parse.{digits_value}

-- ---- the pen

-- a colour: the terminal's own, one of its table, one by red, green and blue, or another by what
-- colons join
pub data Color : Type 0 where
  Own : Color
  Indexed : ℕ → Color
  Direct : ℕ → ℕ → ℕ → Color
  Other : List ℕ → Color

-- underline: 1 is single, 2 double, 3 curly, and so on; blink: 1 is slow, 2 rapid; framed: 2 is
-- encircled. 0 is none of it, and the first font
pub record Pen : Type 0 where
  pub bold : Bool
  pub faint : Bool
  pub italic : Bool
  pub gothic : Bool
  pub underline : ℕ
  pub blink : ℕ
  pub inverse : Bool
  pub hidden : Bool
  pub crossed_out : Bool
  pub font : ℕ
  pub foreground : Color
  pub background : Color
  pub framed : ℕ
  pub overlined : Bool
  pub underline_color : Color

abbrev pub plain_pen : Pen
plain_pen = record {
  bold = false;
  faint = false;
  italic = false;
  gothic = false;
  underline = 0;
  blink = 0;
  inverse = false;
  hidden = false;
  crossed_out = false;
  font = 0;
  foreground = Own;
  background = Own;
  framed = 0;
  overlined = false;
  underline_color = Own;
}

-- ---- what a parameter does to it

-- a number by itself
unfoldable pub with_code : ℕ → Pen → Pen
with_code code pen =
    if code == 0 then plain_pen
    else if code == 1 then record pen { bold = true }
    else if code == 2 then record pen { faint = true }
    else if code == 3 then record pen { italic = true }
    else if code == 4 then record pen { underline = 1 }
    else if code == 5 then record pen { blink = 1 }
    else if code == 6 then record pen { blink = 2 }
    else if code == 7 then record pen { inverse = true }
    else if code == 8 then record pen { hidden = true }
    else if code == 9 then record pen { crossed_out = true }
    else if is_in_range 10 19 code then record pen { font = code - 10 }
    else if code == 20 then record pen { gothic = true }
    else if code == 21 then record pen { underline = 2 }
    else if code == 22 then record pen { bold = false; faint = false }
    else if code == 23 then record pen { italic = false; gothic = false }
    else if code == 24 then record pen { underline = 0 }
    else if code == 25 then record pen { blink = 0 }
    else if code == 27 then record pen { inverse = false }
    else if code == 28 then record pen { hidden = false }
    else if code == 29 then record pen { crossed_out = false }
    else if is_in_range 30 37 code then record pen { foreground = Indexed (code - 30) }
    else if code == 39 then record pen { foreground = Own }
    else if is_in_range 40 47 code then record pen { background = Indexed (code - 40) }
    else if code == 49 then record pen { background = Own }
    else if code == 51 then record pen { framed = 1 }
    else if code == 52 then record pen { framed = 2 }
    else if code == 53 then record pen { overlined = true }
    else if code == 54 then record pen { framed = 0 }
    else if code == 55 then record pen { overlined = false }
    else if code == 59 then record pen { underline_color = Own }
    else if is_in_range 90 97 code then record pen { foreground = Indexed (code - 82) }
    else if is_in_range 100 107 code then record pen { background = Indexed (code - 92) }
    else pen

-- 38, 48 or 58 with a colour
unfoldable pub with_color : ℕ → Color → Pen → Pen
with_color code color pen =
    if code == 38 then record pen { foreground = color }
    else if code == 48 then record pen { background = color }
    else record pen { underline_color = color }

-- the first of some numbers
abbrev pub first_of : List ℕ → ℕ
first_of numbers = get_or numbers 0 0

abbrev pub direct_color : List ℕ → Color
direct_color (red ∷ green ∷ blue ∷ []) = Direct red green blue
direct_color (space ∷ red ∷ green ∷ blue ∷ more) = Direct red green blue
direct_color numbers = Other (2 ∷ numbers)

-- the colour of these numbers: 5 and its place in the table, or 2, the number of a space of colours
-- that may be left out, and red, green and blue
unfoldable pub color_of : List ℕ → Color
color_of numbers =
    let mode = first_of numbers in
    if mode == 5 then Indexed (first_of (drop 1 numbers))
    else if mode == 2 then direct_color (drop 1 numbers)
    else Other numbers

-- a number that colons join to others: a colour, or the kind of an underline
unfoldable pub with_parts : ℕ → List ℕ → Pen → Pen
with_parts code parts pen =
    if code == 4 then record pen { underline = first_of parts }
    else if (code == 38) || (code == 48) || (code == 58) then with_color code (color_of parts) pen
    else pen

-- ---- what parameters do to it

-- a pen, and the numbers so far of a colour that is not whole: 38, 48 or 58, and what follows
pub record Reading : Type 0 where
  pub pen : Pen
  pub color : List ℕ

-- semicolons part 5 from one number, and 2 from three
unfoldable pub is_whole_color : List ℕ → Bool
is_whole_color numbers =
    let mode = first_of numbers in
    (mode == 5) && (length numbers == 2) || (mode == 2) && (length numbers == 4)

-- the reading with a field more: the numbers between two semicolons, which colons part
unfoldable pub with_field : Reading → List ℕ → Reading
with_field reading field =
    let code = first_of field in
    let numbers = reading.color ++ code ∷ [] in
    if not (length reading.color == 0)
    then (if is_whole_color (drop 1 numbers)
    then record {
      pen = with_color (first_of numbers) (color_of (drop 1 numbers)) reading.pen;
      color = [];
    }
    else record reading { color = numbers })
    else if not (length field == 1)
    then record { pen = with_parts code (drop 1 field) reading.pen; color = [] }
    else if (code == 38) || (code == 48) || (code == 58) then record reading { color = numbers }
    else record { pen = with_code code reading.pen; color = [] }

-- a character before the first of some texts
abbrev pub with_first : ℕ → List (List ℕ) → List (List ℕ)
with_first c [] = (c ∷ []) ∷ []
with_first c (text ∷ texts) = (c ∷ text) ∷ texts

-- the texts between these characters
abbrev pub between : ℕ → List ℕ → List (List ℕ)
between sign [] = [] ∷ []
between sign (c ∷ cs) =
    if c == sign then [] ∷ between sign cs else with_first c (between sign cs)

-- the numbers of a field: 0 where none is written
abbrev pub numbers_of : List ℕ → List ℕ
numbers_of field = map (digits_value 10) (between 0x3A field)

abbrev pub read : List ℕ → Pen → Reading
read parameters pen =
    fold with_field (record { pen = pen; color = [] }) (map numbers_of (between 0x3B parameters))

-- the pen after these parameters
abbrev pub apply : List ℕ → Pen → Pen
apply parameters pen = (read parameters pen).pen
