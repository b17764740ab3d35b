-- What options without functions say, and the lines that they name.
use Rattle.std.specs.List.{flat_map}
use Rattle.std.specs.Prelude.{◌≡◌, ◌≢◌, ℕ, ◌-◌, ◌<◌, Bool, false, true, List, None, Option, Some, map}
use Rattle.std.specs.Prelude.{slice_index}
use Rattle.textwrap.specs.{Cuts.parts_between, Options.default_algorithm, Options.Settings}
use Rattle.textwrap.specs.{Options.settings_at, WordSplitters.Splitter, WordSplitters.AtHyphens}
use Rattle.textwrap.specs.Words.{WordText, is_cut, word_of, words_of}
use Rattle.textwrap.specs.WrapAlgorithms.{Algorithm, ByFirstFit}
use Rattle.textwrap_hyphens.specs.{Outside.hyphens_outside, Splitting.split_points, Table.held}
use Rattle.textwrap_layout.specs.{Direct.as_algorithm, Options.layout_view, Paragraph.IsDividedInto}
use Rattle.textwrap_layout.specs.declared.layout.Layout.{Layout}
use Rattle.textwrap_plain.specs.declared.options.PlainOptions.{PlainOptions}
use Rattle.textwrap_plain.specs.declared.options.PlainSeparator.{PlainSeparator}
use Rattle.textwrap_plain.specs.declared.options.PlainSeparator.TheVariants.{AtBlanks, AtBreaks}
use Rattle.textwrap_plain.specs.declared.options.PlainSplitter.{PlainSplitter}
use Rattle.textwrap_plain.specs.declared.options.PlainSplitter.TheVariants.{BuiltIn, Dictionary}
use Rattle.textwrap_plain.specs.declared.options.PlainSplitter.TheVariants.{OutsideSequences}
use Rattle.textwrap_text.specs.Units.{text_width}
use Rattle.textwrap_unicode.specs.{Cuts.cuts_by, Pairs.at_breaks}
use Rattle.textwrap_unicode.specs.declared.numbers.Numbers.TheVariants.{ByExpression, ByPairs}
use Rattle.textwrap_words.specs.Pieces.{as_splitter}
use Rattle.textwrap_words.specs.WordSplitters.{points_of, split_pieces}
use Rattle.textwrap_words.specs.{Words.sizes_of, WrapAlgorithms.IsDividedBy}

-- the words of a line: between blanks, or between the places where Unicode lets it end
abbrev pub words_by : PlainSeparator → List ℕ → List WordText
words_by AtBlanks line = words_of line
words_by (AtBreaks numbers) line = map word_of (parts_between (cuts_by numbers line) line)

-- whether a printable text is cut at a place; by the expression of numbers that is not told
abbrev pub is_cut_plainly : PlainSeparator → List ℕ → ℕ → Bool
is_cut_plainly AtBlanks text place = is_cut (slice_index text (place - 1)) (slice_index text place)
is_cut_plainly (AtBreaks ByPairs) text place = at_breaks text place
is_cut_plainly (AtBreaks ByExpression) text place = false

abbrev pub is_dictionary : PlainSplitter → Bool
is_dictionary (BuiltIn splitter) = false
is_dictionary OutsideSequences = false
is_dictionary (Dictionary table) = true

-- with a dictionary hyphens are to have room
abbrev pub plain_settings : PlainOptions → Settings
plain_settings o =
    record (layout_view o.layout) { room_for_hyphens = is_dictionary o.word_splitter }

-- the layout that they say
abbrev pub plain_layout : PlainOptions → Layout
plain_layout o = record o.layout { room_for_hyphens = is_dictionary o.word_splitter }

-- the splitter of the port, if it is one
abbrev pub port_splitter : PlainSplitter → Option Splitter
port_splitter (BuiltIn splitter) = Some (as_splitter splitter)
port_splitter OutsideSequences = None
port_splitter (Dictionary table) = None

-- a splitter of the port that adds as little behind a line: a dictionary adds hyphens
abbrev pub adds_as : PlainSplitter → Option Splitter
adds_as (BuiltIn splitter) = Some (as_splitter splitter)
adds_as OutsideSequences = Some AtHyphens
adds_as (Dictionary table) = None

-- where it splits a word
abbrev pub points_by : PlainSplitter → List ℕ → List ℕ
points_by (BuiltIn splitter) = points_of (as_splitter splitter)
points_by OutsideSequences = hyphens_outside
points_by (Dictionary table) = split_points (held table)

abbrev pub plain_splitter : PlainOptions → Option Splitter
plain_splitter o = port_splitter o.word_splitter

abbrev pub plain_algorithm : PlainOptions → Algorithm
plain_algorithm o = as_algorithm o.wrap_algorithm

-- words, each replaced by its pieces at the points that a function names
abbrev pub split_by_points : (List ℕ → List ℕ) → List WordText → List WordText
split_by_points points words = flat_map (λ w. split_pieces (points w.word) w) words

-- a paragraph is divided so under these settings, where functions name the words of a line and the
-- points of a word
abbrev pub DividesFrom : (List ℕ → List WordText) → (List ℕ → List ℕ) → Algorithm → Settings → Bool
    → List ℕ → List (List WordText) → Type 0
DividesFrom words points algorithm settings =
    IsDividedInto settings (λ line ws. ws ≡ words line) (λ word ps. ps ≡ points word)
    (IsDividedBy algorithm sizes_of)

-- the same by the options' words, splitter and algorithm
abbrev pub DividesPlainly : PlainOptions → Settings → Bool → List ℕ → List (List WordText) → Type 0
DividesPlainly o =
    DividesFrom (words_by o.word_separator) (points_by o.word_splitter) (plain_algorithm o)

-- if a dictionary splits words, a later line has room for a hyphen behind its indent
abbrev pub HasRoomForHyphen : PlainOptions → Type 0
HasRoomForHyphen o =
    is_dictionary o.word_splitter ≡ true → text_width o.layout.subsequent_indent.now < o.layout.width

-- words stand between blanks, a splitter of the port splits them, and each line takes as many of their
-- pieces as fit
pub record AreDirect (o : PlainOptions) : Type 0 where
  pub separator : o.word_separator ≡ AtBlanks
  pub splitter : plain_splitter o ≢ None
  pub algorithm : plain_algorithm o ≡ ByFirstFit

-- these are the defaults at a width
pub record AreDefaults (width : ℕ) (o : PlainOptions) : Type 0 where
  pub settings : plain_settings o ≡ settings_at width
  pub separator : o.word_separator ≡ AtBreaks ByPairs
  pub splitter : plain_splitter o ≡ Some AtHyphens
  pub algorithm : plain_algorithm o ≡ default_algorithm
