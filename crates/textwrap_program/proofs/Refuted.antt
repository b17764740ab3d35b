-- What the wrong bodies of must-fail/ leave on worked rows, and that no contract allows it: each
-- theorem bears the name of its edit.
use Rattle.std.specs.Prelude.{None, Some}
use Rattle.textwrap_layout.specs.Filling.{IsFilledAt}
use Rattle.textwrap_layout.specs.Options.{settings_at}
use Rattle.textwrap_layout.specs.Paragraph.{DividesAs, parts_from, Slice}
use Rattle.textwrap_lines.proofs.Text.Groups.{division_one, filled_one}
use Rattle.textwrap_program.specs.Filling.{FillsTo, Runs}
use Rattle.textwrap_text.proofs.Common.{[], ◌∷◌, ◌≡◌, ◌∙◌, ℕ, List, ap, arith, codes, false, length, refl}
use Rattle.textwrap_words.specs.WordSplitters.{AtHyphens}
use Rattle.textwrap_words.specs.Words.{word_of, WordText}
use Rattle.textwrap_words.specs.WrapAlgorithms.{Algorithm, ByFirstFit}

-- "foo  ", which is one line at 10 columns
abbrev with_blanks : List ℕ
with_blanks = codes "foo  "

abbrev whole : List (List WordText)
whole = (word_of with_blanks ∷ []) ∷ []

-- is filled as "foo"
filled-foo : (algorithm : Algorithm) (output : List ℕ) → IsFilledAt 10 algorithm with_blanks output
    → length output ≡ 3
filled-foo algorithm output filled =
    let right : IsFilledAt 10 algorithm with_blanks (codes "foo") = (
      Slice (codes "foo") ∷ [],
      record {
        groups = parts_from (settings_at 10) false whole ∷ [];
        defined = ((whole, refl, refl), refl);
        given = refl;
      },
      refl,
    ) in
    ap length (filled_one (settings_at 10) (DividesAs AtHyphens algorithm (settings_at 10))
    (division_one (settings_at 10) algorithm AtHyphens) with_blanks output (codes "foo") filled right)

-- The blanks are not written.
pub input_repeated : FillsTo 10 ByFirstFit with_blanks (Some []) (Some with_blanks) None → ⊥
input_repeated (utf8, (output, filled, appends)) =
    let five : 5 ≡ 3 = ap length appends ∙ filled-foo ByFirstFit output filled in
    absurd (omega (arith, five))

-- Without a fault, what is filled is written.
pub failed_write_reported_as_done : FillsTo 10 ByFirstFit with_blanks (Some []) (Some []) None → ⊥
failed_write_reported_as_done (utf8, (output, filled, appends)) =
    let nothing : 0 ≡ 3 = ap length appends ∙ filled-foo ByFirstFit output filled in
    absurd (omega (arith, nothing))

-- Without a fault, nothing is left to be read.
pub only_a_prefix_of_the_input_read : Runs 10 ByFirstFit (Some (codes "foo bar")) (Some (codes " bar"))
    (Some []) (Some (codes "foo")) None → ⊥
only_a_prefix_of_the_input_read (input, (consumes, at_end), fills) =
    let none : 4 ≡ 0 = ap length at_end in absurd (omega (arith, none))
