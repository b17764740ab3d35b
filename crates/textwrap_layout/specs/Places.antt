-- Where the lines of a text were cut from, and where they stand.
use Rattle.std.specs.Prelude.{◌≡◌, ℕ, ◌+◌, Bool, true, false, List, [], ◌∷◌, ◌++◌, length, map}
use Rattle.std.specs.List.{flat_map}
use Rattle.textwrap_words.specs.Words.{WordText}
use Rattle.textwrap_text.specs.LineEnding.{ending_bytes, paragraphs_of}
use Rattle.textwrap_layout.specs.Options.{Settings}
use Rattle.textwrap_layout.specs.Paragraph.{Line, Slice, Built, LineParts, line_from, parts_from}
use Rattle.textwrap_layout.specs.Text.{AreTextLines}
use Rattle.textwrap_layout.specs.declared.places.Place.{Place}
use Rattle.textwrap_layout.specs.declared.places.PlacedLines.{PlacedLines}

-- ---- the place that a line was cut from

-- a line, and how many bytes of its paragraph, or of the text, come before that place
pub record CutLine : Type 0 where
  pub line : Line
  pub at : ℕ

abbrev pub cut_line : ℕ → Line → CutLine
cut_line at line = record { line = line; at = at }

abbrev pub lines_of : List CutLine → List Line
lines_of cuts = map (λ cut. cut.line) cuts

-- the same line, where so many bytes more come before it
abbrev pub further : ℕ → CutLine → CutLine
further n cut = cut_line (n + cut.at) cut.line

-- lines with these parts, the first of which was cut from this place: each other was cut after what
-- those before it cover, and what was left off after them
abbrev pub cut_lines : ℕ → List LineParts → List CutLine
cut_lines at [] = []
cut_lines at (p ∷ parts) =
    cut_line at (line_from p) ∷ cut_lines (at + length (p.slice ++ p.left_off)) parts

-- the lines of a paragraph's pieces that are divided so, where `is_later` says that a line stands
-- before them
abbrev pub division_cuts : Settings → Bool → List (List WordText) → List CutLine
division_cuts settings is_later division = cut_lines 0 (parts_from settings is_later division)

-- the lines of paragraphs that stand one after another, the first from `start` on, with an ending
-- of so many bytes between each two
abbrev pub text_cuts : ℕ → ℕ → List (List ℕ) → List (List LineParts) → List CutLine
text_cuts ending start [] groups = []
text_cuts ending start (paragraph ∷ paragraphs) [] = []
text_cuts ending start (paragraph ∷ paragraphs) (parts ∷ groups) =
    cut_lines start parts ++ text_cuts ending (start + length paragraph + ending) paragraphs groups

-- these are the lines of the text, each with the place that it was cut from
pub record AreCutLines (settings : Settings)
    (Divides : Bool → List ℕ → List (List WordText) → Type 0) (text : List ℕ)
    (cuts : List CutLine) : Type 0 where
  pub are : AreTextLines settings Divides text (lines_of cuts)
  pub cuts_are : cuts ≡ text_cuts (length (ending_bytes settings.line_ending)) 0
      (paragraphs_of settings.line_ending text) are.groups

-- ---- the place where a line stands

-- what a line is as a text of its own, and what lines are, one after another
abbrev pub built_bytes : Line → List ℕ
built_bytes (Slice bytes) = []
built_bytes (Built bytes) = bytes

abbrev pub built_text : List Line → List ℕ
built_text lines = flat_map built_bytes lines

-- a slice stands in the text where it was cut, and a text of its own among those, after the used
-- bytes
abbrev pub place_of : ℕ → ℕ → Line → Place
place_of cut used (Slice bytes) = record { offset = cut; len = length bytes; is_built = false }
place_of cut used (Built bytes) = record { offset = used; len = length bytes; is_built = true }

abbrev pub places_of : ℕ → List CutLine → List Place
places_of used [] = []
places_of used (cut ∷ cuts) =
    place_of cut.at used cut.line ∷ places_of (used + length (built_bytes cut.line)) cuts

-- the lines stand at these places, and these are the texts of their own among them
abbrev pub ArePlacesOf : List CutLine → List Place → List ℕ → Type 0
ArePlacesOf cuts places built = (places ≡ places_of 0 cuts) × (built ≡ built_text (lines_of cuts))

-- these are the lines of the text; a slice stands at the place that it was cut from, and any other
-- after those before it
pub record ArePlacedLines (settings : Settings)
    (Divides : Bool → List ℕ → List (List WordText) → Type 0) (text : List ℕ) (lines : List Line)
    (places : List Place) : Type 0 where
  pub are : AreTextLines settings Divides text lines
  pub places_are : places ≡ places_of 0 (text_cuts (length (ending_bytes settings.line_ending)) 0
      (paragraphs_of settings.line_ending text) are.groups)

-- they are listed so
abbrev pub HasPlaces : {Z : Type 0} → PlacedLines Z → List CutLine → Type 0
HasPlaces placed cuts = ArePlacesOf cuts placed.places.items placed.built.items

-- and after them, these were
abbrev pub HasPlacesMore : {Z : Type 0} → PlacedLines Z → PlacedLines Z → List CutLine → Type 0
HasPlacesMore old new more =
    (before : List CutLine) → HasPlaces old before → HasPlaces new (before ++ more)
