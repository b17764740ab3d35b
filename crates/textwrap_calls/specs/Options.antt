-- What the numbers of the options mean.
pub use Rattle.textwrap_calls.specs.Dictionary.{says_yes}
use Rattle.std.specs.Prelude.{◌≡◌, ◌≢◌, ◌↔◌, ℕ, ◌≤◌, ◌==◌, List, [], ◌∷◌, Bool, not, true, IsUtf8}
use Rattle.std.specs.Prelude.{false, if◌then◌else◌, length, None}
use Rattle.textwrap.specs.{Filling.IsFilled, Options.Settings, Options.settings_at, Paragraph.Line}
use Rattle.textwrap.specs.{Refilling.IsRefilled, WordSplitters.Splitter, WordSplitters.Whole}
use Rattle.textwrap.specs.{WordSplitters.AtHyphens, Words.WordText}
use Rattle.textwrap.specs.WrapAlgorithms.{Algorithm, ByFirstFit, ByOptimalFit}
use Rattle.textwrap_base.specs.declared.penalties.Penalties.{Penalties}
use Rattle.textwrap_calls.specs.Dictionary.{hyphenation_of, is_whole}
use Rattle.textwrap_calls.specs.Status.{not_utf8, out_of_memory, unknown_options}
use Rattle.textwrap_calls.specs.declared.options.TextwrapOptions.{TextwrapOptions}
use Rattle.textwrap_hyphens.specs.{Outside.hyphens_outside, Splitting.split_points}
use Rattle.textwrap_layout.specs.{Places.ArePlacedLines, declared.places.Place.Place}
use Rattle.textwrap_plain.specs.Options.{plain_algorithm, plain_settings, plain_splitter}
use Rattle.textwrap_plain.specs.Options.{DividesFrom, points_by, words_by}
use Rattle.textwrap_plain.specs.declared.options.PlainOptions.{PlainOptions}
use Rattle.textwrap_plain.specs.declared.options.PlainSeparator.{PlainSeparator}
use Rattle.textwrap_plain.specs.declared.options.PlainSeparator.TheVariants.{AtBlanks, AtBreaks}
use Rattle.textwrap_text.specs.declared.line_ending.LineEnding.TheVariants.{LF, CRLF}
use Rattle.textwrap_unicode.specs.declared.numbers.Numbers.{Numbers}
use Rattle.textwrap_unicode.specs.declared.numbers.Numbers.TheVariants.{ByExpression, ByPairs}
use Rattle.textwrap_words.specs.WordSplitters.{points_of}

abbrev pub options_penalties : TextwrapOptions → Penalties
options_penalties o = record {
  nline_penalty = o.nline_penalty;
  overflow_penalty = o.overflow_penalty;
  short_last_line_fraction = o.short_last_line_fraction;
  short_last_line_penalty = o.short_last_line_penalty;
  hyphen_penalty = o.hyphen_penalty;
}

abbrev pub options_algorithm : TextwrapOptions → Algorithm
options_algorithm o = if o.optimal_fit == 0 then ByFirstFit else ByOptimalFit (options_penalties o)

abbrev pub options_splitter : TextwrapOptions → Splitter
options_splitter o = if o.split_at_hyphens == 0 then Whole else AtHyphens

-- a dictionary splits words
abbrev pub have_dictionary : TextwrapOptions → Bool
have_dictionary o = not (length o.dictionary.numbers.now == 0)

-- where words are split: by the dictionary, if there is one; by 2 within no escape sequence
abbrev pub options_points : TextwrapOptions → List ℕ → List ℕ
options_points o =
    if have_dictionary o then split_points (hyphenation_of o.dictionary)
    else if o.split_at_hyphens == 2 then hyphens_outside
    else points_of (options_splitter o)

-- how numbers are kept together, by the number that says so
abbrev pub numbers_by : ℕ → Numbers
numbers_by n = if n == 1 then ByPairs else ByExpression

abbrev pub separator_of : TextwrapOptions → PlainSeparator
separator_of o =
    if o.unicode_breaks == 0 then AtBlanks else AtBreaks (numbers_by o.unicode_breaks)

abbrev pub options_settings : TextwrapOptions → Settings
options_settings o = record (settings_at o.width) {
  line_ending = if o.crlf == 0 then LF else CRLF;
  initial_indent = o.initial_indent.now;
  subsequent_indent = o.subsequent_indent.now;
  break_words = says_yes o.break_words;
  preserve_trailing_space = says_yes o.preserve_trailing_space;
  even_paragraphs = says_yes o.even_paragraphs;
  room_for_hyphens = have_dictionary o;
}

-- the same for pieces at places that the caller gives: there hyphens have no room of their own
abbrev pub step_settings : TextwrapOptions → Settings
step_settings o = record (options_settings o) { room_for_hyphens = false }

-- a paragraph is divided so under these settings, by the words, the points and the algorithm of the
-- options
abbrev pub Divides : TextwrapOptions → Settings → Bool → List ℕ → List (List WordText) → Type 0
Divides o = DividesFrom (words_by (separator_of o)) (options_points o) (options_algorithm o)

-- the text, filled by the options
abbrev pub IsFilledByOptions : TextwrapOptions → List ℕ → List ℕ → Type 0
IsFilledByOptions o text filled = IsFilled (options_settings o) (Divides o
    (options_settings o)) text filled

-- and filled again
abbrev pub IsRefilledBy : TextwrapOptions → List ℕ → List ℕ → Type 0
IsRefilledBy o text refilled = IsRefilled (options_settings o) (Divides o) text refilled

-- its lines by the options, and where they stand
abbrev pub ArePlacedBy : TextwrapOptions → List ℕ → List Line → List Place → Type 0
ArePlacedBy o text lines places =
    ArePlacedLines (options_settings o) (Divides o (options_settings o)) text lines places

-- these are the options as the library has them
pub record AreRead (o : TextwrapOptions) (read : PlainOptions) : Type 0 where
  pub settings : plain_settings read ≡ options_settings o
  pub separator : read.word_separator ≡ separator_of o
  pub points : points_by read.word_splitter ≡ options_points o
  pub built_in : have_dictionary o ≡ false → o.split_at_hyphens ≢ 2 → plain_splitter read ≢ None
  pub algorithm : plain_algorithm read ≡ options_algorithm o

-- the version is known, and each number means something
pub record AreKnown (o : TextwrapOptions) : Type 0 where
  pub version : o.version ≡ 2
  pub optimal_fit : o.optimal_fit ≤ 1
  pub split_at_hyphens : o.split_at_hyphens ≤ 2
  pub break_words : o.break_words ≤ 1
  pub preserve_trailing_space : o.preserve_trailing_space ≤ 1
  pub even_paragraphs : o.even_paragraphs ≤ 1
  pub crlf : o.crlf ≤ 1
  pub unicode_breaks : o.unicode_breaks ≤ 2
  pub dictionary : is_whole o.dictionary ≡ true
  pub reserved_sizes : o.reserved_sizes ≡ 0 ∷ 0 ∷ 0 ∷ 0 ∷ []

-- the indents are texts
pub record AreTexts (o : TextwrapOptions) : Type 0 where
  pub initial : IsUtf8 o.initial_indent.now
  pub subsequent : IsUtf8 o.subsequent_indent.now

-- ---- what the status of a call by options says

-- UNKNOWN_OPTIONS: these are not known
abbrev pub TellsUnknown : ℕ → TextwrapOptions → Type 0
TellsUnknown status o = status ≡ unknown_options ↔ ¬ AreKnown o

-- NOT_UTF8: they are known, but the text or an indent is not UTF-8
abbrev pub TellsNotUtf8 : ℕ → TextwrapOptions → List ℕ → Type 0
TellsNotUtf8 status o text = status ≡ not_utf8 ↔ AreKnown o × ¬ (IsUtf8 text × AreTexts o)

-- both, where so much has to be known and so much has to be text, and nothing beyond UNKNOWN_OPTIONS
pub record TellsFaults (status : ℕ) (Known Texts : Type 0) : Type 0 where
  pub unknown : status ≡ unknown_options ↔ ¬ Known
  pub not_utf8 : status ≡ not_utf8 ↔ Known × ¬ Texts
  pub statuses : status ≤ unknown_options

-- at blanks, by first fit and where the port splits words it is never OUT_OF_MEMORY
abbrev pub NeedsNoMemory : ℕ → TextwrapOptions → Type 0
NeedsNoMemory status o =
    o.unicode_breaks ≡ 0 → o.optimal_fit ≡ 0 → have_dictionary o ≡ false → o.split_at_hyphens ≢ 2
    → status ≢ out_of_memory
