-- What stands before a place, as the rules see it: combining marks belong to the character before
-- them (LB9), and without one they are letters (LB10).
use Rattle.std.specs.Prelude.{ℕ, Bool, true, false, not, ◌&&◌, ◌||◌, List, [], ◌∷◌, map}
use Rattle.std.specs.Prelude.{if◌then◌else◌}
use Rattle.std.specs.List.{fold}
use Rattle.unicode.specs.declared.properties.LineBreak.{LineBreak}
use Rattle.unicode.specs.declared.properties.LineBreak.TheVariants.{Alphabetic, Unknown}
use Rattle.textwrap_text.specs.declared.classes.Unit.{Unit}
use Rattle.textwrap_unicode.specs.declared.before.Before.{Before}
use Rattle.textwrap_text.specs.ClassSets.{is_closing, is_hebrew, is_inside_number, is_mark}
use Rattle.textwrap_text.specs.ClassSets.{is_number, is_regional_indicator, is_space, is_zwj}
use Rattle.textwrap_text.specs.ClassSets.{takes_no_mark}
use Rattle.textwrap_text.specs.Classes.{unit_of}

-- the units before a place, the nearest first, without marks that belong to one; and whether a ZWJ
-- stands directly before it
pub record Text : Type 0 where
  pub units : List Unit
  pub is_joined : Bool

abbrev pub takes_marks : List Unit → Bool
takes_marks [] = false
takes_marks (unit ∷ units) = not (takes_no_mark unit.class)

-- LB10
abbrev pub as_letter : Unit → Unit
as_letter unit = if is_mark unit.class then record unit { class = Alphabetic } else unit

-- a unit more
abbrev pub with_unit : Text → Unit → Text
with_unit text unit = record {
  units =
      if is_mark unit.class && takes_marks text.units then text.units
      else as_letter unit ∷ text.units;
  is_joined = is_zwj unit.class;
}

abbrev pub nothing : Text
nothing = record { units = []; is_joined = false }

abbrev pub text_of : List ℕ → Text
text_of cs = fold with_unit nothing (map unit_of cs)

-- an odd number of regional indicators stands there, of which each two are a flag
abbrev pub half_a_flag : List Unit → Bool
half_a_flag [] = false
half_a_flag (unit ∷ units) = is_regional_indicator unit.class && not (half_a_flag units)

-- the class of the first of these units, XX where there is none
abbrev pub first_class : List Unit → LineBreak
first_class [] = Unknown
first_class (unit ∷ units) = unit.class

-- the class of the first of these units that is no space
abbrev pub class_past_spaces : List Unit → LineBreak
class_past_spaces [] = Unknown
class_past_spaces (unit ∷ units) =
    if is_space unit.class then class_past_spaces units else unit.class

abbrev pub is_empty : List Unit → Bool
is_empty [] = true
is_empty (unit ∷ units) = false

abbrev pub rest : List Unit → List Unit
rest [] = []
rest (unit ∷ units) = units

abbrev pub first_wide : List Unit → Bool
first_wide [] = false
first_wide (unit ∷ units) = unit.is_wide

abbrev pub first_unassigned : List Unit → Bool
first_unassigned [] = false
first_unassigned (unit ∷ units) = unit.is_unassigned_pictograph

-- NU (NU | SY | IS)* stands there
abbrev pub in_number : List Unit → Bool
in_number [] = false
in_number (unit ∷ units) =
    is_number unit.class || (is_inside_number unit.class && in_number units)

-- NU (NU | SY | IS)* (CL | CP)? stands there
abbrev pub past_number : List Unit → Bool
past_number [] = false
past_number (unit ∷ units) =
    in_number (unit ∷ units) || (is_closing unit.class && in_number units)

-- what the rules ask of what stands before a place
abbrev pub before_of : Text → Before
before_of text = record {
  is_start = is_empty text.units;
  class = first_class text.units;
  past_spaces = class_past_spaces text.units;
  follows_hebrew = is_hebrew (first_class (rest text.units));
  is_half_flag = half_a_flag text.units;
  is_wide = first_wide text.units;
  is_unassigned_pictograph = first_unassigned text.units;
  is_joined = text.is_joined;
  is_in_number = in_number text.units;
  is_past_number = past_number text.units;
}
