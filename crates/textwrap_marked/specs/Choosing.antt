-- Whether a text has marks that are filled.
use Rattle.std.specs.Prelude.{ℕ, Bool, drop, if◌then◌else◌, List, nat_eq}
use Rattle.std.specs.List.{list_any, starts_with}
use Rattle.textwrap_marked_lines.specs.Lines.{lines_of_text}
use Rattle.textwrap_marked.specs.Reflow.{byte_order_mark}
use Rattle.textwrap_marks.specs.declared.options.ReflowOptions.{ReflowOptions}

-- the marks of some line, behind a byte order mark if there is one, are among those that are filled
abbrev pub has_chosen : ReflowOptions → List ℕ → Bool
has_chosen options text =
    list_any (λ line. line.chosen) (lines_of_text options
    (if starts_with nat_eq text byte_order_mark then drop 3 text else text))
