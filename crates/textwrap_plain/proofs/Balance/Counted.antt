-- How many lines a text takes: as many as stand somewhere, and these are as many as a number says.
use Rattle.textwrap_layout.proofs.Common.{AreWordsCut, text_cuts, reported_line, ArePlacedLines}
use Rattle.textwrap_layout.{proofs.Text.Sinks.length-places_of, specs.declared.places.Place.Place}
use Rattle.textwrap_lines.proofs.Common.{AreGroups, Line, LineParts, Settings, cut_lines, line_from}
use Rattle.textwrap_lines.proofs.Common.{Bool, IsUtf8, List, [], ap, arith, ending_bytes, false}
use Rattle.textwrap_lines.proofs.Common.{length, length-append, length-map, map, nat_lt}
use Rattle.textwrap_lines.proofs.Common.{paragraphs_of, refl, sym, ℕ, ◌++◌, ◌+◌, ◌<◌, ◌^◌, ◌||◌}
use Rattle.textwrap_lines.proofs.Common.{◌∷◌, ◌≡◌, flat, ByFirstFit, WordText, AreCuts}
use Rattle.textwrap_plain.proofs.{Balance.Counts.IsInside, Balance.Counts.text-lines, Split.AreAt}
use Rattle.textwrap_plain.specs.{Balance.TakesLines, Balance.at_width, Options.DividesFrom}
use Rattle.textwrap_text.specs.LentText.{as_len}
use Rattle.textwrap_words.proofs.Common.{AreNext}

-- ---- lines are as many as the places where they stand

length-cut_lines : (at : ℕ) (parts : List LineParts) → length (cut_lines at parts) ≡ length parts
length-cut_lines at [] = refl
length-cut_lines at (p ∷ parts) =
    omega (arith, length-cut_lines (at + length (p.slice ++ p.left_off)) parts)

cuts-many : (Are : Bool → List ℕ → List LineParts → Type 0) (ending start : ℕ) (is_later : Bool)
    (paragraphs : List (List ℕ)) (groups : List (List LineParts))
    → AreGroups Are is_later paragraphs groups
    → length (text_cuts ending start paragraphs groups) ≡ length (flat groups)
cuts-many Are ending start is_later [] groups are = ap (λ gs. length (flat gs)) (sym are)
cuts-many Are ending start is_later (paragraph ∷ paragraphs) [] are = absurd are
cuts-many Are ending start is_later (paragraph ∷ paragraphs) (parts ∷ groups) (here, rest) =
    omega (
      arith,
      length-append (cut_lines start parts)
          (text_cuts ending (start + length paragraph + ending) paragraphs groups),
      length-append parts (flat groups),
      length-cut_lines start parts,
      cuts-many Are ending (start + length paragraph + ending) (is_later || nat_lt 0 (length parts))
          paragraphs groups rest,
    )

placed-many : (settings : Settings) (Divides : Bool → List ℕ → List (List WordText) → Type 0)
    (text : List ℕ) (lines : List Line) (places : List Place)
    → ArePlacedLines settings Divides text lines places → length places ≡ length lines
placed-many settings Divides text lines places placed =
    let ending = length (ending_bytes settings.line_ending) in
    let paragraphs = paragraphs_of settings.line_ending text in
    omega (
      arith,
      ap length placed.places_are,
      length-places_of 0 (text_cuts ending 0 paragraphs placed.are.groups),
      cuts-many _ ending 0 false paragraphs placed.are.groups placed.are.defined,
      ap length placed.are.given,
      length-map (flat placed.are.groups) line_from,
    )

-- ---- the number of places says how many they are

pub counted : (words : List ℕ → List WordText)
    (cut : (line : List ℕ) → IsUtf8 line → AreWordsCut line (words line)) (points : List ℕ → List ℕ)
    (cuts : (word ps : List ℕ) → IsUtf8 word → AreAt points word ps → AreCuts word ps)
    (inside : (word : List ℕ) → AreNext (IsInside word) (points word) 0)
    (settings : Settings) (text : List ℕ) (width count : ℕ) (lines : List Line)
    (places : List Place) → IsUtf8 text → length text < 2 ^ 63
    → ArePlacedLines (at_width settings width)
    (DividesFrom words points ByFirstFit (at_width settings width)) text lines places
    → count ≡ as_len (length (map reported_line places))
    → TakesLines settings words points text width count
counted words cut points cuts inside settings text width count lines places utf8 short placed is = (
  lines,
  placed.are,
  omega (
    arith,
    length-map places reported_line,
    placed-many (at_width settings width) _ text lines places placed,
    text-lines words cut points cuts inside ByFirstFit (at_width settings width) text lines utf8
        placed.are,
  ),
)
