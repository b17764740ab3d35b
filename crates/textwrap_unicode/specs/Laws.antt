-- The statements of the laws, each under a name that a caller can cite. They hold of both forms of
-- LB25, and whatever stands behind the place.
use Rattle.std.specs.Prelude.{◌≡◌, ◌≢◌, ◌↔◌, ◌<◌, ◌≤◌, ℕ, Bool, true, false, not, ◌&&◌}
use Rattle.std.specs.Prelude.{List, [], ◌∷◌, ◌++◌, length, if◌then◌else◌, IsCharBoundary, IsUtf8}
use Rattle.std.specs.Prelude.{chars, encode_utf8_all}
use Rattle.std.specs.List.{Contains}
use Rattle.textwrap_unicode.specs.declared.breaks.LineBreak.{LineBreak}
use Rattle.textwrap_unicode.specs.declared.numbers.Numbers.{Numbers}
use Rattle.textwrap_unicode.specs.declared.rules.Verdict.TheVariants.{Mandatory, Allowed}
use Rattle.textwrap_unicode.specs.declared.rules.Verdict.TheVariants.{Prohibited}
use Rattle.textwrap_unicode.specs.Before.{class_past_spaces, text_of}
use Rattle.textwrap_unicode.specs.Breaks.{AreBreaksBy, IsBreakBy, breaks_by, verdict_by}
use Rattle.textwrap_text.specs.Classes.{class_of}
use Rattle.textwrap_text.specs.ClassSets.{is_after_text, is_carriage_return, is_line_end}
use Rattle.textwrap_text.specs.ClassSets.{is_line_feed, is_mark, is_zero_width_space}
use Rattle.textwrap_text.specs.ClassSets.{takes_no_mark}

-- the computed list has each break of the text, and nothing else
abbrev pub ListHasBreaks : Type 0
ListHasBreaks = (numbers : Numbers) (text : List ℕ) (place : LineBreak) → IsUtf8 text
    → Contains (breaks_by numbers text) place ↔ IsBreakBy numbers text place

-- a text has one list of breaks, the computed one
abbrev pub BreaksAreUnique : Type 0
BreaksAreUnique = (numbers : Numbers) (text : List ℕ) (breaks : List LineBreak) → IsUtf8 text
    → AreBreaksBy numbers text breaks ↔ (breaks ≡ breaks_by numbers text)

-- a line ends where a character does, and is not empty
abbrev pub BreaksAreBoundaries : Type 0
BreaksAreBoundaries = (numbers : Numbers) (text : List ℕ) (place : LineBreak) → IsUtf8 text
    → Contains (breaks_by numbers text) place
    → IsCharBoundary text place.at × (0 < place.at) × (place.at ≤ length text)

-- a text that is not empty must end at its end
abbrev pub TextsEnd : Type 0
TextsEnd = (numbers : Numbers) (text : List ℕ) → IsUtf8 text → text ≢ []
    → Contains (breaks_by numbers text) (record { at = length text; is_mandatory = true })

-- ---- what the rules say of some places

-- between these characters and that one there is a break if and only if the rules say so, and it is
-- the kind of break that they say
abbrev pub RulesDecide : Type 0
RulesDecide = (numbers : Numbers) (text front back : List ℕ) (next : ℕ) (is_mandatory : Bool) → IsUtf8 text
    → chars text ≡ front ++ next ∷ back
    → Contains (breaks_by numbers text)
    (record { at = length (encode_utf8_all front); is_mandatory = is_mandatory })
    ↔ (verdict_by numbers front next back ≡ (if is_mandatory then Mandatory else Allowed))

-- a line must end after this character, if that one is next
abbrev pub ends_line : ℕ → ℕ → Bool
ends_line c next =
    is_line_end (class_of c)
    && not (is_carriage_return (class_of c) && is_line_feed (class_of next))

-- no line ends at the start of a text
abbrev pub StartsAreKept : Type 0
StartsAreKept = (numbers : Numbers) (back : List ℕ) (next : ℕ)
    → verdict_by numbers [] next back ≡ Prohibited

-- a line must end after BK, LF and NL, and after CR with no LF behind it, and nowhere else
abbrev pub LinesMustEnd : Type 0
LinesMustEnd = (numbers : Numbers) (front back : List ℕ) (c next : ℕ)
    → (verdict_by numbers (front ++ c ∷ []) next back ≡ Mandatory) ↔ (ends_line c next ≡ true)

-- a line must end after each line feed, U+000A
abbrev pub LineFeedsEndLines : Type 0
LineFeedsEndLines = (numbers : Numbers) (front back : List ℕ) (next : ℕ)
    → verdict_by numbers (front ++ 0x0A ∷ []) next back ≡ Mandatory

-- no line ends between U+000D and U+000A
abbrev pub ReturnAndFeedAreKept : Type 0
ReturnAndFeedAreKept = (numbers : Numbers) (front back : List ℕ) → verdict_by numbers (front ++ 0x0D ∷ []) 0x0A back ≡ Prohibited

-- where no line must end, none ends before BK, CR, LF, NL, SP or ZW; so none does within CR LF
abbrev pub SpacesAreKept : Type 0
SpacesAreKept = (numbers : Numbers) (front back : List ℕ) (c next : ℕ) → ends_line c next ≡ false
    → takes_no_mark (class_of next) ≡ true → verdict_by numbers (front ++ c ∷ []) next back ≡ Prohibited

-- no line ends between a character that takes marks and a mark
abbrev pub MarksAreKept : Type 0
MarksAreKept = (numbers : Numbers) (front back : List ℕ) (c next : ℕ) → takes_no_mark (class_of c) ≡ false
    → is_mark (class_of next) ≡ true → verdict_by numbers (front ++ c ∷ []) next back ≡ Prohibited

-- where no line must end, none ends before CL, CP, EX, IS or SY, unless ZW stands before it, with
-- or without spaces between
abbrev pub ClosingIsKept : Type 0
ClosingIsKept = (numbers : Numbers) (front back : List ℕ) (c next : ℕ) → ends_line c next ≡ false
    → is_zero_width_space (class_past_spaces (text_of (front ++ c ∷ [])).units) ≡ false
    → is_after_text (class_of next) ≡ true → verdict_by numbers (front ++ c ∷ []) next back ≡ Prohibited
