-- The blocks of a text: lines that stand apart, and paragraphs.
use Rattle.std.specs.Prelude.{ℕ, ◌&&◌, ◌||◌, Bool, false, not, bytes_eq, List, [], ◌∷◌, suc}
use Rattle.std.specs.Prelude.{if◌then◌else◌, take, drop}
use Rattle.textwrap_marked_lines.specs.Lines.{LineText}
use Rattle.textwrap_marks.specs.Signs.{first_word, opens_paragraph}

-- a line belongs to the paragraph of the one above: the hanging form there is its prefix
abbrev pub goes_on : LineText → LineText → Bool
goes_on line next =
    not line.apart && not next.apart && not line.ended && bytes_eq next.prefix line.hanging
    && not (opens_paragraph (first_word next.words))

-- a line is the first of the block after it, if that one's first line goes on with it, and else a
-- block of its own
abbrev pub with_line : LineText → List (List LineText) → List (List LineText)
with_line line [] = (line ∷ []) ∷ []
with_line line ([] ∷ blocks) = (line ∷ []) ∷ blocks
with_line line ((next ∷ lines) ∷ blocks) =
    if goes_on line next then (line ∷ next ∷ lines) ∷ blocks
    else (line ∷ []) ∷ (next ∷ lines) ∷ blocks

abbrev pub blocks : List LineText → List (List LineText)
blocks [] = []
blocks (line ∷ lines) = with_line line (blocks lines)

-- how many of these lines go on with the block of the one before them
abbrev pub later_len : LineText → List LineText → ℕ
later_len line [] = 0
later_len line (next ∷ lines) = if goes_on line next then suc (later_len next lines) else 0

-- how many lines the first block has
abbrev pub block_len : List LineText → ℕ
block_len [] = 0
block_len (line ∷ lines) = suc (later_len line lines)

abbrev pub first_block : List LineText → List LineText
first_block lines = take (block_len lines) lines

abbrev pub behind_block : List LineText → List LineText
behind_block lines = drop (block_len lines) lines

-- both begin with a key, behind the same hanging form
abbrev pub are_fields : LineText → LineText → Bool
are_fields one two = one.field && two.field && bytes_eq one.hanging two.hanging

-- a block of this first line is a field, and so is the first of these blocks
abbrev pub is_beside : LineText → List (List LineText) → Bool
is_beside first [] = false
is_beside first ([] ∷ blocks) = false
is_beside first ((line ∷ lines) ∷ blocks) = are_fields first line

-- the block of this first line stays: it stands apart, is not among those that are filled, or stands
-- beside another field
abbrev pub stays : Bool → LineText → Bool
stays beside first = first.apart || not first.chosen || beside
