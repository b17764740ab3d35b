-- Balanced lines, as C has them.
use Rattle.std.specs.Prelude.{ℕ, List}
use Rattle.textwrap.specs.Paragraph.{Line}
use Rattle.textwrap_calls.specs.Options.{ArePlacedBy, separator_of, options_settings, options_points}
use Rattle.textwrap_calls.specs.declared.options.TextwrapOptions.{TextwrapOptions}
use Rattle.textwrap_layout.specs.declared.places.Place.{Place}
use Rattle.textwrap_plain.specs.{Balance.AreFirstFitAt, Balance.IsBalanced, Options.words_by}

-- the options at a width, by first fit
abbrev pub first_fit_at : TextwrapOptions → ℕ → TextwrapOptions
first_fit_at o width = record o { optimal_fit = 0; width = width }

-- the width at which the text is balanced
abbrev pub IsBalancedBy : TextwrapOptions → List ℕ → ℕ → Type 0
IsBalancedBy o text = IsBalanced (options_settings o) (words_by (separator_of o))
    (options_points o) text

-- its lines at that width, and where they stand
abbrev pub AreBalancedBy : TextwrapOptions → List ℕ → List Line → List Place → Type 0
AreBalancedBy o text lines places = (width : ℕ) × IsBalancedBy o text width
    × ArePlacedBy (first_fit_at o width) text lines places

-- its lines by first fit at the width of the options
abbrev pub AreByFirstFit : TextwrapOptions → List ℕ → List Line → Type 0
AreByFirstFit o text lines = AreFirstFitAt (options_settings o) (words_by (separator_of o))
    (options_points o) text o.width lines
