-- What the program's arguments mean.
use Rattle.clap.specs.Words.{App, Row, Rule, Text, first_of, new_rule}
use Rattle.clap.specs.declared.builder.action.ArgAction.TheVariants.{Append}
use Rattle.filter_programs.specs.declared.reflow.arguments.{Request.Request, Unfit.Unfit}
use Rattle.std.specs.List.{flat_map, after_first, before_first, position_or_len}
use Rattle.std.specs.Prelude.{◌≡◌, ℕ, ◌&&◌, not, List, [], ◌∷◌, ◌++◌, map, codes, Option, Some, None}
use Rattle.std.specs.Prelude.{if◌then◌else◌, ◌==◌, length, nat_lt, option_map}
use Rattle.text_filters.specs.Arguments.{file_rule, flag_in, flag_rule, texts_in, tool_app, width_in}
use Rattle.text_filters.specs.{Arguments.width_rule, declared.arguments.Mode.Mode}
use Rattle.text_filters.specs.declared.arguments.Mode.TheVariants.{Print, Check, CheckDiff, Diff, InPlace}
use Rattle.textwrap_base.specs.Penalties.{default_penalties}
use Rattle.textwrap_marked.specs.declared.within.LineRange.{LineRange}
use Rattle.textwrap_marks.specs.declared.options.Algorithm.{Algorithm}
use Rattle.textwrap_marks.specs.declared.options.Algorithm.TheVariants.{FirstFit, LeastCost}
use Rattle.textwrap_marks.specs.declared.options.ReflowOptions.{ReflowOptions}
use Rattle.textwrap_program.specs.{Arguments.width_of, Program.line_feed}
use Rattle.textwrap_text.specs.declared.line_ending.LineEnding.{LineEnding}
use Rattle.textwrap_text.specs.declared.line_ending.LineEnding.TheVariants.{CRLF, LF}
use Rattle.filter_programs.specs.declared.reflow.arguments.Unfit.TheVariants as unfit

-- ---- the command line

abbrev pub quiet_rule : Rule
quiet_rule = record (flag_rule (codes "quiet")) { short = Some 113 }

-- an argument with a text, which may come several times, and whose id is its long name
abbrev pub text_rule : Text → Rule
text_rule name =
    record (new_rule name) { long = Some name; value_names = 1; action = Some Append }

abbrev pub lines_rule : Rule
lines_rule = record (new_rule (codes "lines")) { long = Some (codes "lines"); value_names = 1 }

abbrev pub reflow_rules : List Rule
reflow_rules =
    width_rule ∷ flag_rule (codes "first-fit") ∷ flag_rule (codes "least-cost")
    ∷ flag_rule (codes "justify") ∷ flag_rule (codes "markdown") ∷ text_rule (codes "marker")
    ∷ flag_rule (codes "bare") ∷ text_rule (codes "prefix") ∷ flag_rule (codes "indented")
    ∷ lines_rule ∷ flag_rule (codes "lf") ∷ flag_rule (codes "crlf") ∷ flag_rule (codes "check")
    ∷ flag_rule (codes "diff")
    ∷ flag_rule (codes "in-place") ∷ quiet_rule ∷ file_rule ∷ []

abbrev pub reflow_app : App
reflow_app = tool_app (codes "reflow") reflow_rules

-- ---- what it shows of itself

abbrev pub help_lines : List Text
help_lines =
    codes "Fills the paragraphs of a text, each behind its own marks."
    ∷ codes ""
    ∷ codes "Usage: reflow [OPTIONS] [FILE]..."
    ∷ codes ""
    ∷ codes "Arguments:"
    ∷ codes "  [FILE]...  Files; - is the standard input [default: -]"
    ∷ codes ""
    ∷ codes "Options:"
    ∷ codes "  -w, --width <N>      Columns of a line, also -N [default: 80]"
    ∷ codes "      --first-fit      Fill each line with as many words as fit"
    ∷ codes "      --least-cost     Choose the least ragged lines (default)"
    ∷ codes "      --justify        Widen the gaps of lines to the width"
    ∷ codes "      --markdown       There are no comments, and # is a heading"
    ∷ codes "      --marker <TEXT>  One more word that marks a comment"
    ∷ codes "      --bare           Block comments have no * before their lines"
    ∷ codes "      --prefix <TEXT>  Fill only paragraphs whose marks begin with TEXT"
    ∷ codes "      --indented       Fill also text that is indented deeper"
    ∷ codes "      --lines <A:B>    Fill only the paragraphs at the lines A to B"
    ∷ codes "      --lf             End all lines with LF"
    ∷ codes "      --crlf           End all lines with CR LF"
    ∷ codes "      --check          Print the names of files that would change"
    ∷ codes "      --diff           Print what would change, as a unified diff"
    ∷ codes "      --in-place       Replace each file, by way of a draft beside it"
    ∷ codes "  -q, --quiet          Do not say how many files changed"
    ∷ codes "  -h, --help           Print help"
    ∷ codes "  -V, --version        Print version"
    ∷ codes ""
    ∷ codes "Examples:"
    ∷ codes "  reflow -72 < mail.txt                       A text on standard input, at 72 columns"
    ∷ codes "  reflow --check --markdown *.md              Which of these files would change"
    ∷ codes "  reflow --in-place --prefix // src/*.rs      Comments of lines alone"
    ∷ codes "  reflow --prefix=-- --prefix '/*' query.sql  A text with a hyphen stands behind =" ∷ []

abbrev pub help_text : Text
help_text = flat_map (λ line. line ++ line_feed ∷ []) help_lines

abbrev pub version_text : Text
version_text = codes "reflow 2.0.0" ++ line_feed ∷ []

-- ---- what its matches mean

-- least cost counts for more than first fit
abbrev pub algorithm_in : List Row → Algorithm
algorithm_in rows =
    if flag_in (codes "first-fit") rows && not (flag_in (codes "least-cost") rows) then FirstFit
    else LeastCost default_penalties

-- the ending of all lines, if one is asked for; LF counts for more than CR LF
abbrev pub ending_in : List Row → Option LineEnding
ending_in rows =
    if flag_in (codes "lf") rows then Some LF
    else if flag_in (codes "crlf") rows then Some CRLF
    else None

-- two numbers of 64 bits
abbrev pub range_between : Option ℕ → Option ℕ → Option LineRange
range_between (Some first) (Some last) = Some (record { first = first; last = last })
range_between _ _ = None

-- they stand before and behind the first colon
abbrev pub range_of : Text → Option LineRange
range_of text =
    if nat_lt (position_or_len (λ c. c == 58) text) (length text)
    then range_between (width_of (before_first (λ c. c == 58) text))
    (width_of (after_first (λ c. c == 58) text))
    else None

-- the lines at which paragraphs are filled, if they are given; `None` if they are none
abbrev pub lines_in_text : Option Text → Option (Option LineRange)
lines_in_text None = Some None
lines_in_text (Some text) = option_map (λ range. Some range) (range_of text)

abbrev pub line_range_in : List Row → Option (Option LineRange)
line_range_in rows = lines_in_text (first_of (codes "lines") rows)

-- where only some lines are to change, no ending does
abbrev pub ending_beside : Option LineRange → Option LineEnding → Option LineEnding
ending_beside (Some range) ending = None
ending_beside None ending = ending

-- a diff counts for more than a check alone, and that for more than replacing
abbrev pub mode_in : List Row → Mode
mode_in rows =
    if flag_in (codes "diff") rows && flag_in (codes "check") rows then CheckDiff
    else if flag_in (codes "diff") rows then Diff
    else if flag_in (codes "check") rows then Check
    else if flag_in (codes "in-place") rows then InPlace
    else Print

-- these matches mean these options
pub record AreOptions (rows : List Row) (lines : Option LineRange) (options : ReflowOptions)
    : Type 0 where
  pub width : width_in rows ≡ Some options.width
  pub algorithm : options.algorithm ≡ algorithm_in rows
  pub ending : options.ending ≡ ending_beside lines (ending_in rows)
  pub markdown : options.markdown ≡ flag_in (codes "markdown") rows
  pub markers : map (λ marker. marker.now) options.markers.now ≡ texts_in (codes "marker") rows
  pub bare : options.bare ≡ flag_in (codes "bare") rows
  pub prefixes : map (λ prefix. prefix.now) options.prefixes.now ≡ texts_in (codes "prefix") rows
  pub indented : options.indented ≡ flag_in (codes "indented") rows
  pub justify : options.justify ≡ flag_in (codes "justify") rows

-- these matches mean this request
pub record IsRequest (rows : List Row) (request : Request) : Type 0 where
  pub lines : line_range_in rows ≡ Some request.layout.lines
  pub options : AreOptions rows request.layout.lines request.layout.options
  pub mode : request.inputs.mode ≡ mode_in rows
  pub names : map (λ name. name.now) request.inputs.names.now ≡ texts_in (codes "FILE") rows
  pub quiet : request.inputs.quiet ≡ flag_in (codes "quiet") rows

-- these matches mean no request, since they have no width or no lines
abbrev pub IsUnfit : List Row → Unfit → Type 0
IsUnfit rows unfit.Width = width_in rows ≡ None
IsUnfit rows unfit.Lines = line_range_in rows ≡ None
