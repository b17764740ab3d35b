-- What the rules of line breaking ask of a character (UAX #14): its class, by LB1, and two more
-- properties. A class is a value of the property Line_Break that LB1 leaves.
use Rattle.std.specs.Prelude.{ℕ, Bool, true, false, ◌&&◌}
use Rattle.unicode.specs.Binary.{is_extended_pictographic}
use Rattle.unicode.specs.EastAsianWidth.{east_asian_width}
use Rattle.unicode.specs.GeneralCategory.{general_category}
use Rattle.unicode.specs.LineBreak.{line_break}
use Rattle.unicode.specs.declared.properties.EastAsianWidth.{EastAsianWidth}
use Rattle.unicode.specs.declared.properties.EastAsianWidth.TheVariants.{Fullwidth, Halfwidth, Wide}
use Rattle.unicode.specs.declared.properties.GeneralCategory.{GeneralCategory}
use Rattle.unicode.specs.declared.properties.GeneralCategory.TheVariants.{NonspacingMark}
use Rattle.unicode.specs.declared.properties.GeneralCategory.TheVariants.{SpacingMark, Unassigned}
use Rattle.unicode.specs.declared.properties.LineBreak.{LineBreak}
use Rattle.unicode.specs.declared.properties.LineBreak.TheVariants.{Aksara, AksaraPrebase}
use Rattle.unicode.specs.declared.properties.LineBreak.TheVariants.{AksaraStart, Alphabetic}
use Rattle.unicode.specs.declared.properties.LineBreak.TheVariants.{Ambiguous, BreakAfter}
use Rattle.unicode.specs.declared.properties.LineBreak.TheVariants.{CombiningMark, ComplexContext}
use Rattle.unicode.specs.declared.properties.LineBreak.TheVariants.{ConditionalJapaneseStarter}
use Rattle.unicode.specs.declared.properties.LineBreak.TheVariants.{Nonstarter, Surrogate}
use Rattle.unicode.specs.declared.properties.LineBreak.TheVariants.{UnambiguousHyphen, Unknown}
use Rattle.unicode.specs.declared.properties.LineBreak.TheVariants.{Virama, ViramaFinal}
use Rattle.textwrap_text.specs.declared.classes.Unit.{Unit}

-- LB1: SA is taken as CM if it is a mark, and else as AL
abbrev pub resolve_complex : GeneralCategory → LineBreak
resolve_complex NonspacingMark = CombiningMark
resolve_complex SpacingMark = CombiningMark
resolve_complex category = Alphabetic

-- LB1: AI, SG and XX are taken as AL, and CJ as NS. The values that came after Unicode 15.0 are
-- taken as what their characters had there: AK, AP and AS as AL, VI and VF as CM, HH as BA
abbrev pub resolve : LineBreak → GeneralCategory → LineBreak
resolve Ambiguous category = Alphabetic
resolve Surrogate category = Alphabetic
resolve Unknown category = Alphabetic
resolve Aksara category = Alphabetic
resolve AksaraPrebase category = Alphabetic
resolve AksaraStart category = Alphabetic
resolve ComplexContext category = resolve_complex category
resolve ConditionalJapaneseStarter category = Nonstarter
resolve Virama category = CombiningMark
resolve ViramaFinal category = CombiningMark
resolve UnambiguousHyphen category = BreakAfter
resolve class category = class

abbrev pub class_of : ℕ → LineBreak
class_of c = resolve (line_break c) (general_category c)

-- F, W or H
abbrev pub is_wide : EastAsianWidth → Bool
is_wide Fullwidth = true
is_wide Wide = true
is_wide Halfwidth = true
is_wide width = false

abbrev pub is_unassigned : GeneralCategory → Bool
is_unassigned Unassigned = true
is_unassigned category = false

abbrev pub unit_of : ℕ → Unit
unit_of c = record {
  class = class_of c;
  is_wide = is_wide (east_asian_width c);
  is_unassigned_pictograph = is_extended_pictographic c && is_unassigned (general_category c);
}
