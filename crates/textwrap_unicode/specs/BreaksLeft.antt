-- What the iterator over breaks goes on from.
use Rattle.std.specs.Prelude.{ℕ, ◌+◌, Bool, true, false, not, ◌&&◌, ◌||◌, List, [], ◌∷◌, ◌++◌}
use Rattle.std.specs.Prelude.{length, encode_utf8, if◌then◌else◌}
use Rattle.unicode.specs.declared.properties.LineBreak.TheVariants.{Alphabetic, InfixNumeric, Space}
use Rattle.textwrap_unicode.specs.declared.before.Before.{Before}
use Rattle.textwrap_unicode.specs.declared.breaks.LineBreak.{LineBreak}
use Rattle.textwrap_text.specs.declared.classes.Unit.{Unit}
use Rattle.textwrap_unicode.specs.declared.numbers.Numbers.{Numbers}
use Rattle.textwrap_unicode.specs.Before.{as_letter}
use Rattle.textwrap_unicode.specs.Breaks.{break_at}
use Rattle.textwrap_text.specs.ClassSets.{is_closing, is_hebrew, is_inside_number, is_mark}
use Rattle.textwrap_text.specs.ClassSets.{is_number, is_regional_indicator, is_space, is_zwj}
use Rattle.textwrap_text.specs.ClassSets.{takes_no_mark}
use Rattle.textwrap_text.specs.Classes.{unit_of}
use Rattle.textwrap_unicode.specs.Rules.{decide_by, numbers_rule}

-- what stands before the place after a unit that stands by itself
abbrev pub and_letter : Before → Unit → Bool → Before
and_letter before unit is_joined = record {
  is_start = false;
  class = unit.class;
  past_spaces = if is_space unit.class then before.past_spaces else unit.class;
  follows_hebrew = is_hebrew before.class;
  is_half_flag = is_regional_indicator unit.class && not before.is_half_flag;
  is_wide = unit.is_wide;
  is_unassigned_pictograph = unit.is_unassigned_pictograph;
  is_joined = is_joined;
  is_in_number = is_number unit.class || (is_inside_number unit.class && before.is_in_number);
  is_past_number =
      (is_number unit.class || (is_inside_number unit.class && before.is_in_number))
      || (is_closing unit.class && before.is_in_number);
}

-- what stands before the place after the next unit
abbrev pub and : Before → Unit → Before
and before next =
    if is_mark next.class && not before.is_start && not (takes_no_mark before.class)
    then record before { is_joined = is_zwj next.class }
    else and_letter before (as_letter next) (is_zwj next.class)

-- the same behind letters, blanks and signs, of which the last is a blank or not, and the last that is
-- no blank a sign or not
abbrev pub and_words : Before → Bool → Bool → Before
and_words before blank sign =
    let past = if sign then InfixNumeric else Alphabetic in
    record before { class = if blank then Space else past; past_spaces = past }

abbrev pub breaks_after : Numbers → Before → ℕ → List ℕ → List LineBreak
breaks_after numbers before at [] =
    if before.is_start then [] else record { at = at; is_mandatory = true } ∷ []
breaks_after numbers before at (c ∷ cs) =
    break_at (decide_by (numbers_rule numbers cs) before (unit_of c)) at
    ++ breaks_after numbers (and before (unit_of c)) (at + length (encode_utf8 c)) cs
