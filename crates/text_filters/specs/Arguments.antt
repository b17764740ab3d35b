-- What the command lines of the programs share.
use Rattle.std.specs.Prelude.{ℕ, Bool, false, true, List, [], ◌∷◌, codes, Option, Some, unwrap_or}
use Rattle.std.specs.Prelude.{option_and_then}
use Rattle.std.specs.Option.{option_map_or}
use Rattle.std.specs.Str.{bytes_eq}
use Rattle.clap.specs.Words.{App, Row, Rule, Text, all_of, first_of, new_app, new_rule}
use Rattle.clap.specs.declared.builder.action.ArgAction.TheVariants.{Append, SetTrue}
use Rattle.textwrap_program.specs.Arguments.{width_of}

-- ---- what may stand on a command line

-- the words are those after the program's name, and of what may stand once the last use counts
abbrev pub tool_app : Text → List Rule → App
tool_app name rules = record {
  top = record (new_app name).top {
    rules = rules;
    no_binary_name = true;
    args_override_self = true;
    has_version = true;
  };
  subs = [];
}

-- a flag, whose id is its long name
abbrev pub flag_rule : Text → Rule
flag_rule name = record (new_rule name) { long = Some name; action = Some SetTrue }

abbrev pub width_rule : Rule
width_rule = record (new_rule (codes "width")) {
  long = Some (codes "width");
  short = Some 119;
  value_names = 1;
  defaults = codes "80" ∷ [];
}

-- what stands by itself is an input; without any the standard input is the one
abbrev pub file_rule : Rule
file_rule = record (new_rule (codes "FILE")) { action = Some Append; defaults = codes "-" ∷ [] }

-- ---- what its matches mean

abbrev pub flag_in : Text → List Row → Bool
flag_in name rows = option_map_or (λ text. bytes_eq text (codes "true")) (first_of name rows) false

abbrev pub texts_in : Text → List Row → List Text
texts_in name rows = unwrap_or (all_of name rows) []

-- digits that are a number of 64 bits
abbrev pub width_in : List Row → Option ℕ
width_in rows = option_and_then width_of (first_of (codes "width") rows)
