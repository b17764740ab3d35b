-- What tables with one wrong row would answer on worked rows, and that no pen allows it.
use Rattle.std.specs.Str.{chars}
use Rattle.textwrap_styles.proofs.Common.{Pen, penned_lines, penned_text, plain_pen, plain_rendition}
use Rattle.textwrap_styles.{proofs.PenCodes.is_own, specs.Pen.{with_code, with_field}}
use Rattle.textwrap_styles.specs.Penned.{PennedCharacter}
use Rattle.textwrap_text.proofs.Common.{[], ap, codes, List, map, true≢false, ℕ, ◌∷◌, ◌≡◌}
use lib.Utf8.{encode}

abbrev first_pen : List PennedCharacter → Pen
first_pen [] = plain_pen
first_pen (c ∷ cs) = c.rendition.pen

abbrev last_pen : List (List PennedCharacter) → Pen
last_pen [] = plain_pen
last_pen (line ∷ []) = first_pen line
last_pen (line ∷ other ∷ lines) = last_pen (other ∷ lines)

abbrev shown : List (List ℕ) → List (List PennedCharacter)
shown lines = map (penned_text plain_rendition) lines

-- Where 22 ends bold alone: of "a" in faint, 22 and "b", and "c" the last line is plain.
pub faint_left_by_22 :
    shown (codes "\u{1b}[2ma\u{1b}[0m" ∷ codes "\u{1b}[2m\u{1b}[22mb\u{1b}[0m"
    ∷ codes "\u{1b}[2mc\u{1b}[0m" ∷ [])
    ≡ penned_lines [] [] plain_rendition (codes "\u{1b}[2ma" ∷ codes "\u{1b}[22mb" ∷ codes "c" ∷ [])
    → ⊥
unfolding chars encode with_field with_code
faint_left_by_22 same = true≢false (ap (λ lines. (last_pen lines).faint) same)

-- Where 39 ends the background: of "a" in red on green, 39 and "b", and "c" the last line is on green.
pub background_ended_by_39 :
    shown (codes "\u{1b}[31;42ma\u{1b}[39mb\u{1b}[0m" ∷ codes "\u{1b}[31mc\u{1b}[0m" ∷ [])
    ≡ penned_lines [] [] plain_rendition (codes "\u{1b}[31;42ma\u{1b}[39mb" ∷ codes "c" ∷ []) → ⊥
unfolding chars encode with_field with_code
background_ended_by_39 same = true≢false (ap (λ lines. is_own (last_pen lines).background) same)
