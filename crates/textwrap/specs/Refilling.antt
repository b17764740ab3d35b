-- The text that was filled, got back from its lines, and that text filled again.
use Rattle.std.specs.Prelude.{◌≡◌, ◌≢◌, ℕ, ◌≤◌, max, Bool, true, false, ◌==◌, ◌&&◌, nat_eq, nat_lt}
use Rattle.std.specs.Prelude.{List, [], ◌∷◌, ◌++◌, length, take, drop, map, filter, All}
use Rattle.std.specs.Prelude.{if◌then◌else◌, Option, Some, None, unwrap_or, is_some}
use Rattle.std.specs.Prelude.{slice_index_or}
use Rattle.std.specs.Io.{StartsWith}
use Rattle.std.specs.List.{fold, list_any, take_while, common_prefix_len, ends_with}
use Rattle.std.specs.Str.Lines.{lines}
use Rattle.textwrap_text.specs.Blanks.{blank}
use Rattle.textwrap_text.specs.Units.{text_width}
pub use Rattle.textwrap_text.specs.TextLines.{EndedLine, ended_lines}
use Rattle.textwrap_words.specs.Words.{WordText}
use Rattle.textwrap_base.specs.Penalties.{default_penalties}
use Rattle.textwrap_words.specs.declared.wrap_algorithms.WrapAlgorithm.TheVariants.{OptimalFit}
use Rattle.textwrap_layout.specs.Filling.{IsFilled}
use Rattle.textwrap_text.specs.LineEnding.{carriage_return, line_feed, ending_bytes, join_with}
use Rattle.textwrap_layout.specs.Options.{Settings, settings_at}
use Rattle.textwrap_text.specs.declared.line_ending.LineEnding.{LineEnding}
use Rattle.textwrap_text.specs.declared.line_ending.LineEnding.TheVariants.{CRLF, LF}
use Rattle.textwrap_layout.specs.declared.options.Options.{Options}
use Rattle.textwrap.specs.declared.refilling.TextLayout.{TextLayout}
use Rattle.textwrap_words.specs.declared.word_separators.WordSeparator.TheVariants.{AsciiSpace}
use Rattle.textwrap_words.specs.declared.word_splitters.WordSplitter.TheVariants.{HyphenSplitter}

-- ---- the lines of a text

abbrev pub has_text : EndedLine → Bool
has_text l = nat_lt 0 (length l.line)

abbrev pub nonempty_lines : List ℕ → List EndedLine
nonempty_lines text = filter has_text (ended_lines text)

-- ---- indents

-- a blank, or one of - + * > # /
abbrev pub is_prefix_character : ℕ → Bool
is_prefix_character c = list_any (nat_eq c) (blank ∷ 45 ∷ 43 ∷ 42 ∷ 62 ∷ 35 ∷ 47 ∷ [])

abbrev pub line_prefix : List ℕ → List ℕ
line_prefix line = take_while is_prefix_character line

-- what two texts both begin with
abbrev pub common_start : List ℕ → List ℕ → List ℕ
common_start xs ys = take (common_prefix_len nat_eq xs ys) xs

-- what all these texts begin with
abbrev pub common_prefix : List (List ℕ) → List ℕ
common_prefix [] = []
common_prefix (text ∷ texts) = fold common_start text texts

-- each of the texts begins with it, and with none that is longer; no texts have none
pub record IsCommonPrefix (texts : List (List ℕ)) (prefix : List ℕ) : Type 0 where
  pub begins : All (λ text. StartsWith text prefix) texts
  pub longest : texts ≢ [] → (other : List ℕ) → All (λ text. StartsWith text other) texts
      → length other ≤ length prefix
  pub none : texts ≡ [] → prefix ≡ []

-- ---- what unfilling gives

-- the columns of the widest line
abbrev pub unfilled_width : List ℕ → ℕ
unfilled_width text = fold max 0 (map text_width (lines text))

-- the prefix of the first line, empty where there is none
abbrev pub unfilled_initial : List ℕ → List ℕ
unfilled_initial text = line_prefix (slice_index_or (lines text) 0 [])

-- what the prefixes of all later lines, empty ones too, have in common
abbrev pub unfilled_subsequent : List ℕ → List ℕ
unfilled_subsequent text = common_prefix (map line_prefix (drop 1 (lines text)))

-- this ending is that one
abbrev pub is_ending : LineEnding → Option LineEnding → Bool
is_ending CRLF (Some CRLF) = true
is_ending CRLF (Some LF) = false
is_ending LF (Some CRLF) = false
is_ending LF (Some LF) = true
is_ending ending None = false

-- LF where it is among them, else CRLF where that is
abbrev pub detected_among : List (Option LineEnding) → Option LineEnding
detected_among endings =
    if list_any (is_ending LF) endings then Some LF
    else if list_any (is_ending CRLF) endings then Some CRLF else None

-- among the endings of the lines that are not empty
abbrev pub detected_ending : List ℕ → Option LineEnding
detected_ending text = detected_among (map (λ l. l.ending) (nonempty_lines text))

-- the ending of the settings: the detected one, LF where there is none
abbrev pub unfilled_ending : List ℕ → LineEnding
unfilled_ending text = unwrap_or (detected_ending text) LF

-- an ending is detected, and the text ends in its bytes
abbrev pub keeps_ending : List ℕ → Bool
keeps_ending text =
    is_some (detected_ending text) && ends_with nat_eq text (ending_bytes (unfilled_ending text))

-- the first line loses the first of these indents, each other the second
abbrev pub without_indents : List ℕ → List ℕ → List (List ℕ) → List (List ℕ)
without_indents initial subsequent [] = []
without_indents initial subsequent (line ∷ lines) =
    drop (length initial) line ∷ map (drop (length subsequent)) lines

-- the lines that are not empty, without their indents, and a blank between each two
abbrev pub joined_text : List ℕ → List ℕ
joined_text text =
    join_with (blank ∷ []) (without_indents (unfilled_initial text) (unfilled_subsequent text)
    (map (λ l. l.line) (nonempty_lines text)))

-- the ending, where it is added back
abbrev pub added_ending : Bool → LineEnding → List ℕ
added_ending keeps ending = if keeps then ending_bytes ending else []

abbrev pub unfilled_text : List ℕ → List ℕ
unfilled_text text = joined_text text ++ added_ending (keeps_ending text) (unfilled_ending text)

-- the unfilled text, and after it the initial indent and the subsequent one
abbrev pub unfilled_parts : List ℕ → List ℕ
unfilled_parts text = unfilled_text text ++ unfilled_initial text ++ unfilled_subsequent text

-- these settings, with the indents of the text
abbrev pub with_indents_of : List ℕ → Settings → Settings
with_indents_of text settings = record settings {
  initial_indent = unfilled_initial text;
  subsequent_indent = unfilled_subsequent text;
}

-- words are found, split and divided into lines by the defaults
pub record HasDefaultMethods {E C : Type 0} {e : _} {c : _} (options : Options E C e c)
    : Type 0 where
  pub algorithm : options.wrap_algorithm ≡ OptimalFit default_penalties
  pub separator : options.word_separator ≡ AsciiSpace
  pub splitter : options.word_splitter ≡ HyphenSplitter

-- the settings by which the text seems to have been filled, all else by the defaults
abbrev pub unfilled_settings : List ℕ → Settings
unfilled_settings text =
    let layout = with_indents_of text (settings_at (unfilled_width text)) in
    record layout { line_ending = unfilled_ending text }

-- a layout as settings, all else by the defaults
abbrev pub layout_settings : TextLayout → Settings
layout_settings l = record (settings_at l.width) {
  line_ending = l.line_ending;
  initial_indent = l.initial_indent.now;
  subsequent_indent = l.subsequent_indent.now;
}

-- ---- the text filled again

-- the text, unfilled without its ending and filled with its own indents; the ending of the settings
-- stands in the place of its own. A relation says what a paragraph is divided into under any
-- settings
abbrev pub IsRefilled : Settings → (Settings → Bool → List ℕ → List (List WordText) → Type 0)
    → List ℕ → List ℕ → Type 0
IsRefilled settings Divides text refilled =
    let indented = with_indents_of text settings in
    (filled : List ℕ) × IsFilled indented (Divides indented) (joined_text text) filled
    × (refilled ≡ filled ++ added_ending (keeps_ending text) settings.line_ending)

-- ---- plain text

-- a byte that may stand in a plain word: no blank, no carriage return, no line feed
abbrev pub IsPlainByte : ℕ → Type 0
IsPlainByte c = (c ≢ blank) × (c ≢ carriage_return) × (c ≢ line_feed)

-- a word that begins with no prefix character
pub record IsPlainWord (word : List ℕ) : Type 0 where
  pub some : word ≢ []
  pub bytes : All IsPlainByte word
  pub begins : line_prefix word ≡ []

-- plain words, with a blank between each two
abbrev pub IsPlainLine : List ℕ → Type 0
IsPlainLine line =
    (words : List (List ℕ)) × (words ≢ []) × All IsPlainWord words
    × (line ≡ join_with (blank ∷ []) words)

-- plain lines, with a line feed between each two; no lines are the empty text
abbrev pub IsPlain : List ℕ → Type 0
IsPlain text =
    (lines : List (List ℕ)) × All IsPlainLine lines
    × (text ≡ join_with (line_feed ∷ []) lines)

-- the text on one line: a blank in the place of each line feed
abbrev pub blanked : List ℕ → List ℕ
blanked text = map (λ c. if c == line_feed then blank else c) text
