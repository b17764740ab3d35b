-- What the program's arguments mean.
use Rattle.clap.specs.Words.{App, Row, Rule, Text}
use Rattle.filter_programs.specs.declared.fill.arguments.Request.{Request}
use Rattle.std.specs.List.{flat_map}
use Rattle.std.specs.Prelude.{◌≡◌, ◌&&◌, not, List, [], ◌∷◌, ◌++◌, map, codes, Some, if◌then◌else◌}
use Rattle.text_filters.specs.Arguments.{file_rule, flag_in, flag_rule, texts_in, tool_app}
use Rattle.text_filters.specs.Arguments.{width_in, width_rule}
use Rattle.text_filters.specs.declared.arguments.Mode.TheVariants.{Print}
use Rattle.textwrap_program.specs.{Program.line_feed, declared.arguments.Algorithm.Algorithm}
use Rattle.textwrap_program.specs.declared.arguments.Algorithm.TheVariants.{FirstFit, OptimalFit}

-- ---- the command line

abbrev pub fill_rules : List Rule
fill_rules =
    width_rule ∷ flag_rule (codes "first-fit") ∷ flag_rule (codes "least-cost") ∷ file_rule ∷ []

abbrev pub fill_app : App
fill_app = tool_app (codes "textwrap") fill_rules

-- ---- what it shows of itself

abbrev pub help_lines : List Text
help_lines =
    codes "Fills each line of a text as a paragraph."
    ∷ codes ""
    ∷ codes "Usage: textwrap [OPTIONS] [FILE]..."
    ∷ codes ""
    ∷ codes "Arguments:"
    ∷ codes "  [FILE]...  Files; - is the standard input [default: -]"
    ∷ codes ""
    ∷ codes "Options:"
    ∷ codes "  -w, --width <N>   Columns of a line, also -N [default: 80]"
    ∷ codes "      --first-fit   Fill each line with as many words as fit"
    ∷ codes "      --least-cost  Choose the least ragged lines (default)"
    ∷ codes "  -h, --help        Print help"
    ∷ codes "  -V, --version     Print version"
    ∷ codes ""
    ∷ codes "Examples:"
    ∷ codes "  textwrap -72 < mail.txt      A text on standard input, at 72 columns"
    ∷ codes "  textwrap 40 first notes.txt  The width first, then the algorithm: first or optimal"
    ∷ []

abbrev pub help_text : Text
help_text = flat_map (λ line. line ++ line_feed ∷ []) help_lines

abbrev pub version_text : Text
version_text = codes "textwrap 2.0.0" ++ line_feed ∷ []

-- ---- what its matches mean

-- least cost counts for more than first fit
abbrev pub algorithm_in : List Row → Algorithm
algorithm_in rows =
    if flag_in (codes "first-fit") rows && not (flag_in (codes "least-cost") rows) then FirstFit
    else OptimalFit

-- these matches mean this request
pub record IsRequest (rows : List Row) (request : Request) : Type 0 where
  pub width : width_in rows ≡ Some request.filling.width
  pub algorithm : request.filling.algorithm ≡ algorithm_in rows
  pub names : map (λ name. name.now) request.inputs.names.now ≡ texts_in (codes "FILE") rows
  pub mode : request.inputs.mode ≡ Print
