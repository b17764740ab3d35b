-- What is reported of the paragraphs of a text.
use Rattle.std.specs.Prelude.{ℕ, ◌+◌, Bool, List, [], ◌∷◌, length, if◌then◌else◌}
use Rattle.textwrap_layout.specs.Options.{Settings}
use Rattle.textwrap_layout.specs.Paragraph.{first_width, is_whole, later_width}
use Rattle.textwrap_more_calls.specs.declared.paragraphs.TextwrapParagraph.{TextwrapParagraph}
use Rattle.textwrap_more_calls.specs.declared.paragraphs.TextwrapWidths.{TextwrapWidths}

-- where paragraphs stand, the first of them at the place, with an ending of so many bytes between
-- each two
abbrev pub paragraph_places : ℕ → ℕ → List (List ℕ) → List TextwrapParagraph
paragraph_places ending at [] = []
paragraph_places ending at (paragraph ∷ paragraphs) =
    record { offset = at; len = length paragraph }
    ∷ paragraph_places ending (at + length paragraph + ending) paragraphs

-- whether the paragraph is one line as a whole, and the widths of its lines, where `is_later` says
-- that a line stands before it
abbrev pub widths_view : Settings → Bool → List ℕ → TextwrapWidths
widths_view settings is_later paragraph = record {
  is_whole = if is_whole settings is_later paragraph then 1 else 0;
  first = first_width settings is_later;
  later = later_width settings;
}
