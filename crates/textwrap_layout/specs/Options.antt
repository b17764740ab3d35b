-- The settings of a wrap, as values of the logic.
use Rattle.std.specs.Prelude.{◌≡◌, ◌≢◌, ℕ, Bool, true, false, List, [], Some, None}
use Rattle.textwrap_base.specs.Penalties.{default_penalties}
use Rattle.textwrap_words.specs.WrapAlgorithms.{Algorithm, ByOptimalFit, algorithm_view}
use Rattle.textwrap_base.specs.declared.penalties.Penalties.{Penalties}
use Rattle.textwrap_words.specs.WordSplitters.{Splitter, AtHyphens, splitter_view}
use Rattle.textwrap_text.specs.declared.line_ending.LineEnding.{LineEnding}
use Rattle.textwrap_text.specs.declared.line_ending.LineEnding.TheVariants.{LF}
use Rattle.textwrap_layout.specs.declared.layout.Layout.{Layout}
use Rattle.textwrap_layout.specs.declared.options.Options.{Options}
use Rattle.textwrap_words.specs.declared.word_separators.WordSeparator.TheVariants.{AsciiSpace}

-- what the options say, but for the algorithm, the separator and the splitter, and whether a hyphen
-- that is printed behind a piece is to have room, too, which options do not ask for
pub record Settings : Type 0 where
  pub width : ℕ
  pub line_ending : LineEnding
  pub initial_indent : List ℕ
  pub subsequent_indent : List ℕ
  pub break_words : Bool
  pub preserve_trailing_space : Bool
  pub even_paragraphs : Bool
  pub room_for_hyphens : Bool

abbrev pub settings_view : {E C : Type 0} {e : _} {c : _} → Options E C e c → Settings
settings_view o = record {
  width = o.width;
  line_ending = o.line_ending;
  initial_indent = o.initial_indent.now;
  subsequent_indent = o.subsequent_indent.now;
  break_words = o.break_words;
  preserve_trailing_space = o.preserve_trailing_space;
  even_paragraphs = o.even_paragraphs;
  room_for_hyphens = false;
}

-- the same of options without their methods
abbrev pub layout_view : Layout → Settings
layout_view l = record {
  width = l.width;
  line_ending = l.line_ending;
  initial_indent = l.initial_indent.now;
  subsequent_indent = l.subsequent_indent.now;
  break_words = l.break_words;
  preserve_trailing_space = l.preserve_trailing_space;
  even_paragraphs = l.even_paragraphs;
  room_for_hyphens = l.room_for_hyphens;
}

-- options without their methods
abbrev pub layout_of : {E C : Type 0} {e : _} {c : _} → Options E C e c → Layout
layout_of o = record {
  width = o.width;
  line_ending = o.line_ending;
  initial_indent = o.initial_indent;
  subsequent_indent = o.subsequent_indent;
  break_words = o.break_words;
  preserve_trailing_space = o.preserve_trailing_space;
  even_paragraphs = o.even_paragraphs;
  room_for_hyphens = false;
}

-- how words are found, split and divided stays as it was
pub record KeepsMethods {E C : Type 0} {e : _} {c : _} (old new : Options E C e c)
    : Type 0 where
  pub algorithm : new.wrap_algorithm ≡ old.wrap_algorithm
  pub separator : new.word_separator ≡ old.word_separator
  pub splitter : new.word_splitter ≡ old.word_splitter

-- the defaults at a width
abbrev pub settings_at : ℕ → Settings
settings_at width = record {
  width = width;
  line_ending = LF;
  initial_indent = [];
  subsequent_indent = [];
  break_words = true;
  preserve_trailing_space = false;
  even_paragraphs = false;
  room_for_hyphens = false;
}

abbrev pub default_algorithm : Algorithm
default_algorithm = ByOptimalFit default_penalties

-- words stand between blanks, and neither the splitter nor the algorithm is a function of the
-- caller
pub record HasBuiltInParts {E C : Type 0} {e : _} {c : _} (o : Options E C e c)
    : Type 0 where
  pub separator : o.word_separator ≡ AsciiSpace
  pub splitter : splitter_view o.word_splitter ≢ None
  pub algorithm : algorithm_view o.wrap_algorithm ≢ None

-- these are the settings, words stand between blanks, and the splitter and the algorithm are these
pub record HasParts {E C : Type 0} {e : _} {c : _} (o : Options E C e c) (settings : Settings)
    (splitter : Splitter) (algorithm : Algorithm) : Type 0 where
  pub settings_are : settings_view o ≡ settings
  pub separator : o.word_separator ≡ AsciiSpace
  pub splitter_is : splitter_view o.word_splitter ≡ Some splitter
  pub algorithm_is : algorithm_view o.wrap_algorithm ≡ Some algorithm

-- the caller says where words are split, and optimal fit divides them: there alone can widths
-- overflow
abbrev pub MayOverflow : {E C : Type 0} {e : _} {c : _} → Options E C e c → Type 0
MayOverflow o =
    (splitter_view o.word_splitter ≡ None)
    × ((penalties : Penalties)
    × (algorithm_view o.wrap_algorithm ≡ Some (ByOptimalFit penalties)))

-- all fields have their defaults at this width
abbrev pub HasDefaults : {E C : Type 0} {e : _} {c : _} → ℕ → Options E C e c → Type 0
HasDefaults width o = HasParts o (settings_at width) AtHyphens default_algorithm
