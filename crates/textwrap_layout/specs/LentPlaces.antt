-- Lines by where they stand, of which lent room holds as many as there is room for.
use Rattle.std.specs.Prelude.{◌≡◌, ℕ, List, [], ◌∷◌, ◌++◌, length, map, if◌then◌else◌}
use Rattle.textwrap_text.specs.LentText.{as_len}
use Rattle.textwrap_layout.specs.Paragraph.{Line}
use Rattle.textwrap_layout.specs.Places.{built_bytes, place_of}
pub use Rattle.textwrap_layout.specs.Written.{HasWritten}
use Rattle.textwrap_layout.specs.declared.lent_places.LentPlaces.{LentPlaces}
use Rattle.textwrap_layout.specs.declared.lent_places.LineCounts.{LineCounts}
use Rattle.textwrap_layout.specs.declared.places.Place.{Place}
use Rattle.textwrap_layout.specs.declared.places.TextwrapLine.{TextwrapLine}

-- a place as it is reported: lines that are texts of their own are those in the room, and a number that
-- no number of the program holds is the greatest one
abbrev pub reported_line : Place → TextwrapLine
reported_line place = record {
  offset = as_len place.offset;
  len = as_len place.len;
  is_built = if place.is_built then 1 else 0;
}

-- as many of these places, and of this text for the room, as have room were written over what stood
-- there, and so long they are
pub record WritesPlaces (places : List Place) (built : List ℕ) (counts : LineCounts)
    (lines_before lines_after : List TextwrapLine) (room_before room_after : List ℕ) : Type 0 where
  pub lines : HasWritten lines_after counts.lines (map reported_line places) lines_before
  pub text : HasWritten room_after counts.built built room_before

-- ---- as it is written

-- the lines stand at these places, and this is the text of those that are no slices, in room that held
-- these
pub record ArePlaced (lent : LentPlaces) (places : List Place) (built : List ℕ)
    (lines_before : List TextwrapLine) (room_before : List ℕ) : Type 0 where
  pub lines : HasWritten lent.lines.now lent.count (map reported_line places) lines_before
  pub text : HasWritten lent.room.now lent.len built room_before

-- they are written to where they were before, in the same paragraph
pub record KeepsPlaces (old new : LentPlaces) : Type 0 where
  pub lines : new.lines.ghost_name ≡ old.lines.ghost_name
  pub room : new.room.ghost_name ≡ old.room.ghost_name
  pub offset : new.offset ≡ old.offset

-- and one more, a slice that was cut from this place, or a text of its own
pub record AddsPlace (old new : LentPlaces) (at : ℕ) (line : Line) : Type 0 where
  pub keeps : KeepsPlaces old new
  pub placed : (places : List Place) (built : List ℕ) (lines_before : List TextwrapLine)
      (room_before : List ℕ) → ArePlaced old places built lines_before room_before
      → ArePlaced new (places ++ place_of at (length built) line ∷ []) (built ++ built_bytes line)
      lines_before room_before
