-- How much room answers take at most, by the lengths of the texts.
pub use Rattle.textwrap_text.specs.LentText.{as_len}
use Rattle.std.specs.Prelude.{◌≡◌, ℕ, ◌+◌, ◌-◌, ◌*◌, ◌/◌, ◌^◌, ◌≤◌, ◌⊎◌, max, ◌==◌, ◌&&◌, List}
use Rattle.std.specs.Prelude.{length, IsUtf8, if◌then◌else◌}
use Rattle.textwrap.specs.{Columns.IsInColumns, Paragraph.Line}
use Rattle.textwrap_calls.specs.Columns.{AreRows}
use Rattle.textwrap_calls.specs.Options.{Divides, have_dictionary, options_settings}
use Rattle.textwrap_calls.specs.declared.columns.TextwrapGaps.{TextwrapGaps}
use Rattle.textwrap_calls.specs.declared.options.TextwrapOptions.{TextwrapOptions}
use Rattle.textwrap_layout.specs.{Places.ArePlacedLines, declared.places.Place.Place}
use Rattle.textwrap_text.specs.LineEnding.{ending_bytes}

-- the greatest length that a number holds
abbrev pub greatest_length : ℕ
greatest_length = 2 ^ 64 - 1

-- so many are enough for so many, if a number holds how many are needed
abbrev pub Suffices : ℕ → ℕ → Type 0
Suffices bound needed = (needed ≤ bound) ⊎ (greatest_length ≤ bound)

-- room of this length is enough for each such answer
abbrev pub HoldsEach : (List ℕ → Type 0) → ℕ → Type 0
HoldsEach IsAnswer room = (answer : List ℕ) → IsAnswer answer → Suffices room (length answer)

-- it is so for all texts of this length
abbrev pub ForTextsOf : ℕ → (List ℕ → Type 0) → Type 0
ForTextsOf len Holds = (text : List ℕ) → IsUtf8 text → length text ≡ len → Holds text

-- it is so for all lines that `textwrap_wrap` may report of the text
abbrev pub ForLinesOf : TextwrapOptions → List ℕ → (List Line → Type 0) → Type 0
ForLinesOf o text Holds = (lines : List Line) (places : List Place)
    → ArePlacedLines (options_settings o)
    (Divides o (options_settings o)) text lines places → Holds lines

-- it is so for all rows that `textwrap_wrap_columns` may write of the text
abbrev pub ForRowsOf : TextwrapOptions → TextwrapGaps → ℕ → List ℕ → (List Line → Type 0) → Type 0
ForRowsOf o gaps columns text Holds = (rows : List Line)
    → AreRows (IsInColumns (options_settings o) (Divides o) columns text
    gaps.left.now gaps.middle.now gaps.right.now) rows → Holds rows

-- ---- the bounds, without the limit of a number

-- the hyphens that are printed behind a line at most
abbrev pub hyphens_of : TextwrapOptions → ℕ
hyphens_of o = if have_dictionary o then 1 else 0

-- each byte on a line of its own, after an ending and the later indent, and the initial indent; behind
-- each line its hyphen
abbrev pub fill_bound : TextwrapOptions → ℕ → ℕ
fill_bound o len =
    length o.initial_indent.now + hyphens_of o
    + len * (1 + length o.subsequent_indent.now + hyphens_of o
    + length (ending_bytes (options_settings o).line_ending))

-- the lines that have an indent or a hyphen, each byte on a line of its own; without both there are none
abbrev pub wrap_room_bound : TextwrapOptions → ℕ → ℕ
wrap_room_bound o len =
    if (length o.initial_indent.now == 0)
    && ((length o.subsequent_indent.now == 0) && (hyphens_of o == 0)) then 0
    else length o.initial_indent.now + hyphens_of o
    + len * (1 + length o.subsequent_indent.now + hyphens_of o)

-- each byte on a line of its own, and one line before them, in so many columns; without columns
-- there are none
abbrev pub rows_bound : ℕ → ℕ → ℕ
rows_bound len columns = if columns == 0 then 0 else len / columns + 1

-- the gaps and the columns of each row, and the lines with their indents and hyphens, each byte on one
-- of its own
abbrev pub columns_room_bound : TextwrapOptions → TextwrapGaps → ℕ → ℕ → ℕ
columns_room_bound o gaps len columns =
    rows_bound len columns
    * (length gaps.left.now + length gaps.right.now + (columns - 1) * length gaps.middle.now
    + max o.width columns)
    + (length o.initial_indent.now + hyphens_of o
    + len * (1 + length o.subsequent_indent.now + hyphens_of o))
