-- Where a line of a text may or must end.
use Rattle.std.specs.Prelude.{◌≡◌, ◌≢◌, ◌⊎◌, ◌↔◌, ◌<◌, ℕ, ◌+◌, Bool, true, false, List, [], ◌∷◌}
use Rattle.std.specs.Prelude.{◌++◌, length}
use Rattle.std.specs.Prelude.{chars, encode_utf8, encode_utf8_all, get_or, if◌then◌else◌}
use Rattle.std.specs.List.{Contains}
use Rattle.textwrap_unicode.specs.declared.breaks.LineBreak.{LineBreak}
use Rattle.textwrap_unicode.specs.declared.numbers.Numbers.{Numbers}
use Rattle.textwrap_unicode.specs.declared.numbers.Numbers.TheVariants.{ByPairs}
use Rattle.textwrap_unicode.specs.declared.rules.Verdict.{Verdict}
use Rattle.textwrap_unicode.specs.declared.rules.Verdict.TheVariants.{Mandatory, Allowed}
use Rattle.textwrap_unicode.specs.declared.rules.Verdict.TheVariants.{Prohibited}
use Rattle.textwrap_unicode.specs.Before.{Text, before_of, is_empty, nothing, text_of, with_unit}
use Rattle.textwrap_text.specs.Classes.{unit_of}
use Rattle.textwrap_unicode.specs.Rules.{decide_by, numbers_rule}

-- what the rules say of the place between these characters and this one, which others follow
abbrev pub verdict_by : Numbers → List ℕ → ℕ → List ℕ → Verdict
verdict_by numbers front next back =
    decide_by (numbers_rule numbers back) (before_of (text_of front)) (unit_of next)

-- the text is characters, and then others, and what the rules say of the place between them
pub record IsPlaceBy (numbers : Numbers) (text : List ℕ) (at : ℕ) (verdict : Verdict)
    : Type 0 where
  pub front : List ℕ
  pub next : ℕ
  pub back : List ℕ
  pub divided : chars text ≡ front ++ next ∷ back
  pub offset : at ≡ length (encode_utf8_all front)
  pub said : verdict_by numbers front next back ≡ verdict

-- LB3: the end of a text that is not empty
abbrev pub IsEnd : List ℕ → ℕ → Type 0
IsEnd text at = (text ≢ []) × (at ≡ length text)

-- a line must end here, or may
abbrev pub EndsBy : Numbers → List ℕ → ℕ → Bool → Type 0
EndsBy numbers text at true = IsPlaceBy numbers text at Mandatory ⊎ IsEnd text at
EndsBy numbers text at false = IsPlaceBy numbers text at Allowed

abbrev pub IsBreakBy : Numbers → List ℕ → LineBreak → Type 0
IsBreakBy numbers text place = EndsBy numbers text place.at place.is_mandatory

-- these are all the places, in order
pub record AreBreaksBy (numbers : Numbers) (text : List ℕ) (breaks : List LineBreak)
    : Type 0 where
  pub in_order : (i j : ℕ) (none : LineBreak) → i < j → j < length breaks
      → (get_or breaks i none).at < (get_or breaks j none).at
  pub all : (place : LineBreak) → Contains breaks place ↔ IsBreakBy numbers text place

-- ---- the same, computed

abbrev pub break_at : Verdict → ℕ → List LineBreak
break_at Mandatory at = record { at = at; is_mandatory = true } ∷ []
break_at Allowed at = record { at = at; is_mandatory = false } ∷ []
break_at Prohibited at = []

-- from a place on, which so many bytes and this text come before
abbrev pub breaks_from : Numbers → Text → ℕ → List ℕ → List LineBreak
breaks_from numbers text at [] =
    if is_empty text.units then [] else record { at = at; is_mandatory = true } ∷ []
breaks_from numbers text at (c ∷ cs) =
    break_at (decide_by (numbers_rule numbers cs) (before_of text) (unit_of c)) at
    ++ breaks_from numbers (with_unit text (unit_of c)) (at + length (encode_utf8 c)) cs

abbrev pub breaks_by : Numbers → List ℕ → List LineBreak
breaks_by numbers text = breaks_from numbers nothing 0 (chars text)

-- ---- with numbers by pairs

abbrev pub line_breaks : List ℕ → List LineBreak
line_breaks = breaks_by ByPairs
