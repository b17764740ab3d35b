-- What is reported of rows.
use Rattle.std.specs.Prelude.{◌≡◌, ℕ, List, [], ◌∷◌, map, IsUtf8}
use Rattle.textwrap.specs.Paragraph.{Line, Built}
use Rattle.textwrap_layout.specs.Places.{CutLine, built_text, cut_line, lines_of, places_of}
use Rattle.textwrap_layout.specs.declared.places.Place.{Place}
use Rattle.textwrap_display.specs.Tables.{RowGaps}
use Rattle.textwrap_calls.specs.declared.columns.TextwrapGaps.{TextwrapGaps}

-- the numbers in reserve are 0
pub record AreKnownGaps (gaps : TextwrapGaps) : Type 0 where
  pub reserved_sizes : gaps.reserved_sizes ≡ 0 ∷ 0 ∷ 0 ∷ 0 ∷ []

-- the gaps are texts
pub record AreTextGaps (gaps : TextwrapGaps) : Type 0 where
  pub left : IsUtf8 gaps.left.now
  pub middle : IsUtf8 gaps.middle.now
  pub right : IsUtf8 gaps.right.now

-- the gaps, as those of a table
abbrev pub row_gaps : TextwrapGaps → RowGaps
row_gaps gaps = record {
  left = gaps.left.now;
  middle = gaps.middle.now;
  right = gaps.right.now;
}

-- lines of their own, which are such rows
abbrev pub AreRows : (List (List ℕ) → Type 0) → List Line → Type 0
AreRows Are lines = (rows : List (List ℕ)) × Are rows × (lines ≡ map Built rows)

-- lines of their own were cut from nowhere
abbrev pub row_cuts : List (List ℕ) → List CutLine
row_cuts rows = map (λ row. cut_line 0 (Built row)) rows

-- the places of such rows, and their text for the room
abbrev pub ArePlacedRows : List (List ℕ) → List Place → List ℕ → Type 0
ArePlacedRows rows places built =
    (places ≡ places_of 0 (row_cuts rows)) × (built ≡ built_text (lines_of (row_cuts rows)))
