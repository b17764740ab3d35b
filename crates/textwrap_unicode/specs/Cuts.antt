-- Where a line is cut into words at the places where it may end.
use Rattle.std.specs.Prelude.{ℕ, Bool, true, false, List, map}
use Rattle.textwrap_text.specs.Units.{stripped}
use Rattle.textwrap_words.specs.WordOffsets.{cuts_at}
use Rattle.textwrap_unicode.specs.declared.breaks.LineBreak.{LineBreak}
use Rattle.textwrap_unicode.specs.declared.numbers.Numbers.{Numbers}
use Rattle.textwrap_unicode.specs.declared.numbers.Numbers.TheVariants.{ByPairs}
use Rattle.textwrap_unicode.specs.declared.rules.Verdict.{Verdict}
use Rattle.textwrap_unicode.specs.declared.rules.Verdict.TheVariants.{Mandatory, Allowed}
use Rattle.textwrap_unicode.specs.declared.rules.Verdict.TheVariants.{Prohibited}
use Rattle.textwrap_unicode.specs.Breaks.{breaks_by}

abbrev pub offsets_of : List LineBreak → List ℕ
offsets_of breaks = map (λ b. b.at) breaks

-- at the breaks of the line without its escape sequences
abbrev pub cuts_by : Numbers → List ℕ → List ℕ
cuts_by numbers line = cuts_at (offsets_of (breaks_by numbers (stripped line))) line

abbrev pub unicode_cuts : List ℕ → List ℕ
unicode_cuts = cuts_by ByPairs

-- a line may end there, or must
abbrev pub may_end : Verdict → Bool
may_end Mandatory = true
may_end Allowed = true
may_end Prohibited = false
