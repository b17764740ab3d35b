-- How a text of many paragraphs is laid out again, as C has it.
use Rattle.std.specs.Prelude.{◌≡◌, ℕ, ◌≤◌, ◌==◌, List, [], ◌∷◌, All, if◌then◌else◌, Option, Some}
use Rattle.std.specs.Prelude.{None}
use Rattle.textwrap_base.specs.declared.penalties.Penalties.{Penalties}
use Rattle.textwrap_calls.specs.{Options.says_yes, Texts.bytes_of, Texts.IsText}
use Rattle.textwrap_calls.specs.declared.reflowing.TextwrapReflowOptions.{TextwrapReflowOptions}
use Rattle.textwrap_display.specs.Tables.{texts_in}
use Rattle.textwrap_marked.specs.Reflow.{IsReflowed}
use Rattle.textwrap_marks.specs.declared.options.Algorithm.{Algorithm}
use Rattle.textwrap_marks.specs.declared.options.Algorithm.TheVariants.{FirstFit, LeastCost}
use Rattle.textwrap_marks.specs.declared.options.ReflowOptions.{ReflowOptions}
use Rattle.textwrap_text.specs.declared.line_ending.LineEnding.{LineEnding}
use Rattle.textwrap_text.specs.declared.line_ending.LineEnding.TheVariants.{LF, CRLF}

abbrev pub reflow_penalties : TextwrapReflowOptions → Penalties
reflow_penalties o = record {
  nline_penalty = o.nline_penalty;
  overflow_penalty = o.overflow_penalty;
  short_last_line_fraction = o.short_last_line_fraction;
  short_last_line_penalty = o.short_last_line_penalty;
  hyphen_penalty = o.hyphen_penalty;
}

abbrev pub reflow_algorithm : TextwrapReflowOptions → Algorithm
reflow_algorithm o = if o.optimal_fit == 0 then FirstFit else LeastCost (reflow_penalties o)

-- the ending that a number asks for, if it does
abbrev pub ending_of_number : ℕ → Option LineEnding
ending_of_number number =
    if number == 0 then None else if number == 1 then Some LF else Some CRLF

-- these are the options as the library has them
pub record AreRead (o : TextwrapReflowOptions) (read : ReflowOptions) : Type 0 where
  pub width : read.width ≡ o.width
  pub algorithm : read.algorithm ≡ reflow_algorithm o
  pub ending : read.ending ≡ ending_of_number o.ending
  pub markdown : read.markdown ≡ says_yes o.markdown
  pub markers : texts_in read.markers.now ≡ bytes_of o.markers.now
  pub bare : read.bare ≡ says_yes o.bare
  pub prefixes : texts_in read.prefixes.now ≡ bytes_of o.prefixes.now
  pub indented : read.indented ≡ says_yes o.indented
  pub justify : read.justify ≡ says_yes o.justify

-- the text is reflowed at what these mean
abbrev pub IsReflowedBy : TextwrapReflowOptions → List ℕ → List ℕ → Type 0
IsReflowedBy o text reflowed =
    (read : ReflowOptions) × AreRead o read × IsReflowed read text reflowed

-- the version is known, and each number means something
pub record AreKnown (o : TextwrapReflowOptions) : Type 0 where
  pub version : o.version ≡ 2
  pub optimal_fit : o.optimal_fit ≤ 1
  pub ending : o.ending ≤ 2
  pub markdown : o.markdown ≤ 1
  pub bare : o.bare ≤ 1
  pub indented : o.indented ≤ 1
  pub justify : o.justify ≤ 1
  pub reserved : o.reserved ≡ 0
  pub reserved_sizes : o.reserved_sizes ≡ 0 ∷ 0 ∷ 0 ∷ 0 ∷ []

-- the marks and the prefixes are texts
pub record AreTexts (o : TextwrapReflowOptions) : Type 0 where
  pub markers : All IsText o.markers.now
  pub prefixes : All IsText o.prefixes.now
