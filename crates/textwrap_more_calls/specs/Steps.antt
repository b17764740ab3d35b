-- What is given and reported of a paragraph in steps.
use Rattle.std.specs.Prelude.{◌≡◌, ℕ, List}
use Rattle.textwrap.specs.{Cuts.AreInnerCuts, LineEnds.AreEnds, LineEnds.lines_between}
use Rattle.textwrap.specs.{Options.Settings, Paragraph.Line}
use Rattle.textwrap_calls.specs.Options.{says_yes}
use Rattle.textwrap_layout.specs.Places.{CutLine, division_cuts, lines_of, places_of}
use Rattle.textwrap_layout.specs.declared.places.Place.{Place}
use Rattle.textwrap_lines.specs.Steps.{pieces_at}

-- the paragraph may be cut at these offsets, and its words split at these points
pub record AreSteps (cuts points paragraph : List ℕ) : Type 0 where
  pub cuts_are : AreInnerCuts paragraph cuts
  pub points_are : AreInnerCuts paragraph points

-- and lines of the pieces may end so
pub record AreLineSteps (settings : Settings) (cuts points ends paragraph : List ℕ) : Type 0 where
  pub steps : AreSteps cuts points paragraph
  pub ends_are : AreEnds (pieces_at settings cuts points paragraph) ends

-- the lines at these ends, each with the place that it was cut from; a number says whether a line
-- stands before them
abbrev pub step_cuts : Settings → List ℕ → List ℕ → List ℕ → ℕ → List ℕ → List CutLine
step_cuts settings cuts points ends is_later paragraph =
    division_cuts settings (says_yes is_later)
    (lines_between ends (pieces_at settings cuts points paragraph))

-- lines by where they stand, which were cut from these places
abbrev pub ArePlacedCuts : List CutLine → List Line → List Place → Type 0
ArePlacedCuts cuts lines places = (lines ≡ lines_of cuts) × (places ≡ places_of 0 cuts)
