-- Lines of printable ASCII, for which neither the options nor UTF-8 have to be read.
use Rattle.std.specs.Prelude.{◌≡◌, ◌≢◌, ℕ, List, [], ◌∷◌, IsUtf8, slice_index}
use Rattle.textwrap_calls.specs.Options.{options_settings, AreKnown, Divides}
use Rattle.textwrap_calls.specs.declared.options.TextwrapOptions.{TextwrapOptions}
use Rattle.textwrap_layout.specs.{Paragraph.Slice, Places.ArePlacedLines, Places.place_of}
use Rattle.textwrap_text.specs.{Blanks.blank, Units.IsPrintable}

-- known options that add nothing to a first line
pub record HaveNoInitialIndent (o : TextwrapOptions) : Type 0 where
  pub initial : o.initial_indent.now ≡ []
  pub subsequent : IsUtf8 o.subsequent_indent.now
  pub known : AreKnown o

-- the text is this one line, a slice from its beginning
abbrev pub IsOnlyLine : TextwrapOptions → List ℕ → List ℕ → Type 0
IsOnlyLine o text line = ArePlacedLines (options_settings o) (Divides o (options_settings o)) text
    (Slice line ∷ []) (place_of 0 0 (Slice line) ∷ [])

-- printable characters, of which the first is no blank
pub record IsFullLine (text : List ℕ) : Type 0 where
  pub some : text ≢ []
  pub dark : slice_index text 0 ≢ blank
  pub printable : IsPrintable text
