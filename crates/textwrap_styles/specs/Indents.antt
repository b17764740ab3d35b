-- Lines and their indents.
use Rattle.std.specs.Prelude.{ℕ, nat_eq, List, length, take, drop, if◌then◌else◌}
use Rattle.std.specs.List.{starts_with}

-- how many bytes of a line are its indent: none where it does not begin with that
abbrev pub indent_end : List ℕ → List ℕ → ℕ
indent_end indent line = if starts_with nat_eq line indent then length indent else 0

-- these bytes, and those after them
abbrev pub before_text : List ℕ → List ℕ → List ℕ
before_text indent line = take (indent_end indent line) line

abbrev pub after_indent : List ℕ → List ℕ → List ℕ
after_indent indent line = drop (indent_end indent line) line
