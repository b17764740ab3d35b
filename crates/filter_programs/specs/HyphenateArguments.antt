-- What the program's arguments mean.
use Rattle.clap.specs.Words.{App, Row, Rule, Text, first_of, new_rule}
use Rattle.clap.specs.declared.builder.action.ArgAction.TheVariants.{Set}
use Rattle.filter_programs.specs.declared.hyphenate.arguments.Count.{Count}
use Rattle.filter_programs.specs.declared.hyphenate.arguments.Count.TheVariants.{Width, Left, Right}
use Rattle.filter_programs.specs.declared.hyphenate.arguments.Request.{Request}
use Rattle.filter_programs.specs.declared.hyphenate.texts.Filling.{Filling}
use Rattle.std.specs.List.{flat_map}
use Rattle.std.specs.Prelude.{◌≡◌, ℕ, true, List, [], ◌∷◌, ◌++◌, map, codes, Option, Some, None}
use Rattle.std.specs.Prelude.{option_map, unwrap_or}
use Rattle.text_filters.specs.Arguments.{file_rule, flag_in, flag_rule, texts_in, tool_app}
use Rattle.text_filters.specs.declared.arguments.Mode.TheVariants.{Print}
use Rattle.textwrap_program.specs.{Arguments.width_of, Program.line_feed}

-- ---- the command line

abbrev pub columns_rule : Rule
columns_rule = record (new_rule (codes "width")) {
  long = Some (codes "width");
  short = Some 119;
  value_names = 1;
}

-- a number of letters
abbrev pub count_rule : Text → Rule
count_rule name = record (new_rule name) { long = Some name; value_names = 1 }

-- what stands first by itself is the dictionary, and has to be there
abbrev pub dictionary_rule : Rule
dictionary_rule =
    record (new_rule (codes "DICTIONARY")) { action = Some Set; required = true }

abbrev pub hyphenate_app : App
hyphenate_app = tool_app (codes "hyphenate") (columns_rule ∷ flag_rule (codes "least-cost")
    ∷ flag_rule (codes "breaks") ∷ count_rule (codes "left") ∷ count_rule (codes "right")
    ∷ flag_rule (codes "soft-hyphens")
    ∷ record (flag_rule (codes "quiet")) { short = Some 113 } ∷ dictionary_rule ∷ file_rule ∷ [])

-- ---- what it shows of itself

abbrev pub help_lines : List Text
help_lines =
    codes "Prints words with hyphens at their points, by the patterns of a dictionary."
    ∷ codes ""
    ∷ codes "Usage: hyphenate [OPTIONS] <DICTIONARY> [FILE]..."
    ∷ codes ""
    ∷ codes "Arguments:"
    ∷ codes "  <DICTIONARY>  A dictionary of libhyphen, or a list of TeX's patterns"
    ∷ codes "  [FILE]...     Files; - is the standard input [default: -]"
    ∷ codes ""
    ∷ codes "Options:"
    ∷ codes "  -w, --width <N>     Fill the text at N columns, with hyphens; also -N"
    ∷ codes "      --least-cost    Choose the least ragged lines there, not as many words a line as fit"
    ∷ codes "      --breaks        Let lines end where Unicode lets them, not between blanks alone"
    ∷ codes "      --left <N>      Keep N letters before a hyphen, not as many as the dictionary says"
    ∷ codes "      --right <N>     Keep N letters behind a hyphen"
    ∷ codes "      --soft-hyphens  Set hyphens at the soft hyphens alone of a word that has some"
    ∷ codes "  -q, --quiet         Do not say how many patterns would change letters"
    ∷ codes "  -h, --help          Print help"
    ∷ codes "  -V, --version       Print version"
    ∷ codes ""
    ∷ codes "Examples:"
    ∷ codes "  hyphenate hyph_en_US.dic < words.txt  Each line is a word"
    ∷ codes "  hyphenate -30 hyph_de.dic brief.txt   A text, filled at 30 columns" ∷ []

abbrev pub help_text : Text
help_text = flat_map (λ line. line ++ line_feed ∷ []) help_lines

abbrev pub version_text : Text
version_text = codes "hyphenate 2.0.0" ++ line_feed ∷ []

-- ---- what its matches mean

abbrev pub name_of : Count → Text
name_of Width = codes "width"
name_of Left = codes "left"
name_of Right = codes "right"

abbrev pub number_in_text : Option Text → Option (Option ℕ)
number_in_text None = Some None
number_in_text (Some text) = option_map (λ number. Some number) (width_of text)

-- the number of an option, if it is given; `None` if its value is none
abbrev pub number_if_given : Text → List Row → Option (Option ℕ)
number_if_given name rows = number_in_text (first_of name rows)

-- how a text is filled by a request, if there is a width
abbrev pub filling_of : Request → Option Filling
filling_of request =
    option_map (λ width. record { width = width; least_cost = request.least_cost; breaks = request.breaks })
    request.width

-- these matches mean this request
pub record IsRequest (rows : List Row) (request : Request) : Type 0 where
  pub dictionary : request.dictionary.now ≡ unwrap_or (first_of (codes "DICTIONARY") rows) []
  pub width : number_if_given (codes "width") rows ≡ Some request.width
  pub least_cost : request.least_cost ≡ flag_in (codes "least-cost") rows
  pub breaks : request.breaks ≡ flag_in (codes "breaks") rows
  pub left : number_if_given (codes "left") rows ≡ Some request.left
  pub right : number_if_given (codes "right") rows ≡ Some request.right
  pub soft_hyphens : request.soft_hyphens ≡ flag_in (codes "soft-hyphens") rows
  pub quiet : request.quiet ≡ flag_in (codes "quiet") rows
  pub names : map (λ name. name.now) request.inputs.names.now ≡ texts_in (codes "FILE") rows
  pub mode : request.inputs.mode ≡ Print
