-- What texts become by a dictionary: words with hyphens, and filled paragraphs.
use Rattle.filter_programs.specs.declared.hyphenate.texts.{Filling.Filling, Hyphenating.Hyphenating}
use Rattle.std.specs.List.{flat_map, join_with_byte}
use Rattle.std.specs.Prelude.{◌≡◌, ℕ, Bool, List, [], ◌∷◌, ◌++◌, if◌then◌else◌, Option, None, Some, true}
use Rattle.std.specs.Str.Lines.{lines}
use Rattle.text_filters.specs.Filter.{Work}
use Rattle.textwrap_hyphens.specs.Hyphenation.{Hyphenation}
use Rattle.textwrap_hyphens.specs.{Points.hyphenation_points, Splitting.split_points, Table.held}
use Rattle.textwrap_layout.specs.{Filling.IsFilled, Options.default_algorithm, Options.settings_at}
use Rattle.textwrap_plain.specs.Options.{DividesFrom, words_by}
use Rattle.textwrap_plain.specs.declared.options.PlainSeparator.{PlainSeparator}
use Rattle.textwrap_plain.specs.declared.options.PlainSeparator.TheVariants.{AtBlanks, AtBreaks}
use Rattle.textwrap_text.specs.LineEnding.{line_feed}
use Rattle.textwrap_unicode.specs.declared.numbers.Numbers.TheVariants.{ByPairs}
use Rattle.textwrap_words.specs.{Cuts.parts_onward, WordSplitters.hyphen}
use Rattle.textwrap_words.specs.WrapAlgorithms.{Algorithm, ByFirstFit}

-- the parts of a word between these points, joined by hyphens
abbrev pub hyphenated_at : List ℕ → List ℕ → List ℕ
hyphenated_at points word = join_with_byte hyphen (parts_onward 0 points word)

-- a word with a hyphen at each of its points, and a line feed
abbrev pub hyphenated_word : Hyphenation → List ℕ → List ℕ
hyphenated_word h word = hyphenated_at (hyphenation_points h word) word ++ line_feed ∷ []

-- the lines of a text, each as a word
abbrev pub hyphenated_words : Hyphenation → List ℕ → List ℕ
hyphenated_words h text = flat_map (hyphenated_word h) (lines text)

-- lines end where Unicode lets them, or between blanks
abbrev pub separator_by : Bool → PlainSeparator
separator_by breaks = if breaks then AtBreaks ByPairs else AtBlanks

-- they are the least ragged ones, or by first fit
abbrev pub algorithm_by : Bool → Algorithm
algorithm_by least_cost = if least_cost then default_algorithm else ByFirstFit

-- a text, filled so at a width, with hyphens at the points of its words, which have room on the lines
abbrev pub IsFilledWith : Filling → Hyphenation → List ℕ → List ℕ → Type 0
IsFilledWith how h =
    let settings = record (settings_at how.width) { room_for_hyphens = true } in
    IsFilled settings (DividesFrom (words_by (separator_by how.breaks)) (split_points h)
    (algorithm_by how.least_cost) settings)

-- what a text becomes: filled, if that is asked for, else its words with their hyphens
abbrev pub IsMade : Option Filling → Hyphenation → List ℕ → List ℕ → Type 0
IsMade None h text made = made ≡ hyphenated_words h text
IsMade (Some how) h text made = IsFilledWith how h text made

-- the program as a filter
abbrev pub hyphenating_by : Option Filling → Hyphenation → Work
hyphenating_by filling h = record { Makes = IsMade filling h; applies = λ text. true }

abbrev pub hyphenating : Hyphenating → Work
hyphenating how = hyphenating_by how.filling (held how.patterns)
