-- What is reported of the lines of a text.
use Rattle.std.specs.Prelude.{◌≡◌, ◌≢◌, ℕ, ◌+◌, ◌<◌, ◌≤◌, ◌⊎◌, ◌↔◌, true, false, List, [], ◌∷◌}
use Rattle.std.specs.Prelude.{length, map, slice_range}
use Rattle.textwrap.specs.Paragraph.{Line, Slice, Built}
use Rattle.textwrap_calls.specs.Status.{done, too_small}
use Rattle.textwrap_layout.specs.{LentPlaces.reported_line, Places.built_text}
use Rattle.textwrap_layout.specs.declared.places.{Place.Place, TextwrapLine.TextwrapLine}
use Rattle.textwrap_text.specs.LentText.{as_len, written_over}

-- ---- what stands at that place

-- these bytes stand in the text where that is reported
pub record Shows (bytes text : List ℕ) (line : Place) : Type 0 where
  pub len : line.len ≡ length bytes
  pub within : line.offset + line.len ≤ length text
  pub bytes_are : slice_range text line.offset (line.offset + line.len) ≡ bytes

-- a slice stands in the text, at a place or after it
pub record ShowsSlice (text : List ℕ) (from : ℕ) (bytes : List ℕ) (line : Place)
    : Type 0 where
  pub not_built : line.is_built ≡ false
  pub shows : Shows bytes text line
  pub after : from ≤ line.offset

-- a line of its own stands in the room, after the used bytes
pub record ShowsBuilt (room : List ℕ) (used : ℕ) (bytes : List ℕ) (line : Place)
    : Type 0 where
  pub built : line.is_built ≡ true
  pub shows : Shows bytes room line
  pub offset : line.offset ≡ used

-- the slices stand in the text in their order, and the lines of their own one after another
abbrev pub ShowLines : List ℕ → List ℕ → ℕ → ℕ → List Line → List Place → Type 0
ShowLines text room from used [] reported = reported ≡ []
ShowLines text room from used (line ∷ lines) [] = ⊥
ShowLines text room from used (Slice bytes ∷ lines) (t ∷ reported) =
    ShowsSlice text from bytes t
    × ShowLines text room (t.offset + length bytes) used lines reported
ShowLines text room from used (Built bytes ∷ lines) (t ∷ reported) =
    ShowsBuilt room used bytes t
    × ShowLines text room from (used + length bytes) lines reported

-- ---- what is written

-- as many of the lines as have room are reported, and as much of those of their own as has room is in the
-- room; what follows is as it was. How many lines there are is reported, and how long those of their own
-- are, as `reported` says; and the status says whether there is no room for all. If there is, they are
-- shown where they are reported. Else nothing is written
pub record WritesLinesAs (reported : ℕ → ℕ) (AreAnswer : List Line → List Place → Type 0)
    (text : List ℕ) (status : ℕ) (lines_before lines_after : List TextwrapLine)
    (count_before count_after : ℕ) (room_before room_after : List ℕ) (len_before len_after : ℕ)
    : Type 0 where
  pub written : (status ≡ done) ⊎ (status ≡ too_small) → (answer : List Line)
      × (places : List Place) × AreAnswer answer places
      × (count_after ≡ length answer) × (len_after ≡ reported (length (built_text answer)))
      × (lines_after ≡ written_over lines_before (map reported_line places))
      × (room_after ≡ written_over room_before (built_text answer))
      × (status ≡ too_small
      ↔ (length lines_before < length answer) ⊎ (length room_before < length (built_text answer)))
      × (status ≡ done → ShowLines text room_after 0 0 answer places)
  pub kept : status ≢ done → status ≢ too_small
      → (lines_after ≡ lines_before) × (room_after ≡ room_before)
  pub kept_counts : status ≢ done → status ≢ too_small
      → (count_after ≡ count_before) × (len_after ≡ len_before)

-- with their length
abbrev pub WritesLines : (List Line → List Place → Type 0) → List ℕ → ℕ → List TextwrapLine
    → List TextwrapLine → ℕ → ℕ → List ℕ → List ℕ → ℕ → ℕ → Type 0
WritesLines = WritesLinesAs (λ n. n)

-- with their length, or the greatest number where it is more
abbrev pub WritesLongLines : (List Line → List Place → Type 0) → List ℕ → ℕ → List TextwrapLine
    → List TextwrapLine → ℕ → ℕ → List ℕ → List ℕ → ℕ → ℕ → Type 0
WritesLongLines = WritesLinesAs as_len
