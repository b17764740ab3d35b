-- Where a line may or must end, as C has it.
use Rattle.std.specs.Prelude.{ℕ, List, map, if◌then◌else◌}
use Rattle.textwrap_more_calls.specs.declared.breaks.TextwrapLineBreak.{TextwrapLineBreak}
use Rattle.textwrap_unicode.specs.{Breaks.breaks_by, declared.breaks.LineBreak.LineBreak}
use Rattle.textwrap_unicode.specs.declared.numbers.Numbers.{Numbers}

abbrev pub break_place : LineBreak → TextwrapLineBreak
break_place place = record {
  offset = place.at;
  is_mandatory = if place.is_mandatory then 1 else 0;
}

abbrev pub break_places : Numbers → List ℕ → List TextwrapLineBreak
break_places numbers text = map break_place (breaks_by numbers text)
