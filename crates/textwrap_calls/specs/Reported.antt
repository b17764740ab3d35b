-- How the lines of a text are reported.
use Rattle.std.specs.Prelude.{◌≡◌, ℕ, ◌<◌, ◌⊎◌, ◌↔◌, List, length, map}
use Rattle.textwrap_calls.specs.Status.{done, too_small}
use Rattle.textwrap_layout.specs.LentPlaces.{reported_line}
use Rattle.textwrap_layout.specs.declared.{lent_places.LineCounts.LineCounts, places.Place.Place}
use Rattle.textwrap_layout.specs.declared.places.TextwrapLine.{TextwrapLine}
use Rattle.textwrap_text.specs.LentText.{written_over}

-- so many lines are reported, and so long; and whether so many have room
pub record ReportsLines (counts : LineCounts) (lines room : ℕ) (status count len : ℕ) : Type 0 where
  pub count_is : count ≡ counts.lines
  pub len_is : len ≡ counts.built
  pub small : status ≡ too_small ↔ (lines < counts.lines) ⊎ (room < counts.built)
  pub statuses : (status ≡ done) ⊎ (status ≡ too_small)

-- as many of these places, and of this text for the room, as have room were written; how many they are
-- is reported, and how long, as `reported` says; and the status says whether there is no room for all
pub record WritesReported (reported : ℕ → ℕ) (places : List Place) (built : List ℕ) (status : ℕ)
    (lines_before lines_after : List TextwrapLine) (count_after : ℕ)
    (room_before room_after : List ℕ) (len_after : ℕ) : Type 0 where
  pub count : count_after ≡ length places
  pub len : len_after ≡ reported (length built)
  pub lines : lines_after ≡ written_over lines_before (map reported_line places)
  pub room : room_after ≡ written_over room_before built
  pub small : status ≡ too_small
      ↔ (length lines_before < length places) ⊎ (length room_before < length built)
