-- How the program lays out a text.
use Rattle.filter_programs.specs.declared.reflow.layout.Reflowing.{Reflowing}
use Rattle.std.specs.Prelude.{ℕ, ◌==◌, ◌||◌, Bool, List, None, Option, Some, length}
use Rattle.text_filters.specs.Filter.{Work}
use Rattle.textwrap_marked.specs.{Choosing.has_chosen, Reflow.IsReflowed, Within.IsReflowedWithin}
use Rattle.textwrap_marked.specs.declared.within.LineRange.{LineRange}
use Rattle.textwrap_marks.specs.declared.options.ReflowOptions.{ReflowOptions}

-- the paragraphs of the text are filled again, those at some lines or all
abbrev pub IsLaidOutAt : Option LineRange → ReflowOptions → List ℕ → List ℕ → Type 0
IsLaidOutAt None options text output = IsReflowed options text output
IsLaidOutAt (Some range) options text output = IsReflowedWithin options range text output

abbrev pub LaysOut : Reflowing → List ℕ → List ℕ → Type 0
LaysOut layout text output = IsLaidOutAt layout.lines layout.options text output

-- some line of the text has marks that are filled; each line does, if there are no prefixes
abbrev pub has_marks : ReflowOptions → List ℕ → Bool
has_marks options text = length options.prefixes.now == 0 || has_chosen options text

-- the program as a filter
abbrev pub reflowing : Reflowing → Work
reflowing layout = record { Makes = LaysOut layout; applies = has_marks layout.options }
