-- What takes the lines of a text.
use Rattle.std.specs.Prelude.{◌≡◌, ℕ, true, nat_lt, List, ◌++◌, length, map, if◌then◌else◌}
use Rattle.std.specs.String.{string_bytes}
use Rattle.textwrap_text.specs.LentText.{IsLent}
use Rattle.textwrap_layout.specs.LentPlaces.{ArePlaced}
use Rattle.textwrap_text.specs.LineEnding.{ending_bytes, join_with}
use Rattle.textwrap_layout.specs.Paragraph.{line_bytes, line_view}
use Rattle.textwrap_layout.specs.Places.{CutLine, built_text, further, lines_of, places_of}
use Rattle.textwrap_layout.specs.declared.lent_places.LentLinePlaces.{LentLinePlaces}
use Rattle.textwrap_layout.specs.declared.line_sinks.JoinedLines.{JoinedLines}
use Rattle.textwrap_layout.specs.declared.line_sinks.LentLines.{LentLines}
use Rattle.textwrap_layout.specs.declared.line_sinks.ListedLines.{ListedLines}
use Rattle.textwrap_layout.specs.declared.places.PlacedLines.{PlacedLines}

-- after the lines that it took, whatever they are, it took these of the paragraph
pub record Pushed {S : Type 0} (Holds : S → S → ℕ → List CutLine → Type 0) (old new : S)
    (lines : List CutLine) : Type 0 where
  pub held : (first : S) (start : ℕ) (before : List CutLine) → Holds first old start before
      → Holds first new start (before ++ map (further start) lines)

-- the list is that of these lines
abbrev pub HoldsList : {Z : Type 0} → ListedLines Z → List CutLine → Type 0
HoldsList listed held = map line_view listed.lines.now.items ≡ lines_of held

-- the text is that of these lines, with the ending that it began with between each two
pub record HoldsText {Z : Type 0} (first now : JoinedLines Z) (held : List CutLine) : Type 0 where
  pub text : string_bytes now.text
      ≡ join_with (ending_bytes first.line_ending) (map line_bytes (lines_of held))
  pub ending : now.line_ending ≡ first.line_ending
  pub has_lines : now.has_lines ≡ nat_lt 0 (length held)

-- the room that it began with was written over by the text of these lines
pub record HoldsLent (first now : LentLines) (held : List CutLine) : Type 0 where
  pub same : now.text.now.room.ghost_name ≡ first.text.now.room.ghost_name
  pub text : IsLent now.text.now (join_with (ending_bytes first.line_ending)
      (map line_bytes (lines_of held))) first.text.now.room.now
  pub ending : now.line_ending ≡ first.line_ending
  pub has_lines : now.has_lines ≡ nat_lt 0 (length held)

-- the lines stand at these places, and its paragraph begins here
pub record HoldsPlaces {Z : Type 0} (placed : PlacedLines Z) (start : ℕ) (held : List CutLine)
    : Type 0 where
  pub places : placed.places.items ≡ places_of 0 held
  pub built : placed.built.items ≡ built_text (lines_of held)
  pub offset : placed.offset ≡ start

-- the same in the room that it began with
pub record HoldsLentPlaces (first now : LentLinePlaces) (start : ℕ) (held : List CutLine)
    : Type 0 where
  pub same_lines : now.placed.now.lines.ghost_name ≡ first.placed.now.lines.ghost_name
  pub same_room : now.placed.now.room.ghost_name ≡ first.placed.now.room.ghost_name
  pub placed : ArePlaced now.placed.now (places_of 0 held) (built_text (lines_of held))
      first.placed.now.lines.now first.placed.now.room.now
  pub offset : now.placed.now.offset ≡ start

-- a text of lines with one more line, after the ending if it has any
pub record HasOneMore {Z : Type 0} (old new : JoinedLines Z) (line : List ℕ) : Type 0 where
  pub text : string_bytes new.text ≡ (if old.has_lines
      then string_bytes old.text ++ ending_bytes old.line_ending ++ line
      else string_bytes old.text ++ line)
  pub ending : new.line_ending ≡ old.line_ending
  pub has_lines : new.has_lines ≡ true

-- the same in lent room
pub record LentOneMore (old new : LentLines) (line : List ℕ) : Type 0 where
  pub same : new.text.now.room.ghost_name ≡ old.text.now.room.ghost_name
  pub text : (text before : List ℕ) → IsLent old.text.now text before
      → IsLent new.text.now (if old.has_lines then text ++ ending_bytes old.line_ending ++ line
      else text ++ line) before
  pub ending : new.line_ending ≡ old.line_ending
  pub has_lines : new.has_lines ≡ true
