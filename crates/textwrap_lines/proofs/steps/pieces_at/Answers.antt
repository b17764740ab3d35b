use Rattle.textwrap_lines.proofs.Common.{settings_view, pieces-tile, word_view, AreTexts, WordText}
use Rattle.textwrap_lines.proofs.Common.{split_at, AreCuts, word_of, IsUtf8, rules, arith, subst, ℕ}
use Rattle.textwrap_lines.proofs.Common.{List, refl, map, sym}
use Rattle.textwrap_lines.proofs.steps.pieces_at.Goals as goal
use Rattle.textwrap_words.proofs.Common.{parts_between}
use Rattle.textwrap_words.proofs.Word.Cuts.{inner-cuts}
use Rattle.textwrap_words.proofs.Word.Parts.{parts-texts, parts_between-tile}
use Rattle.textwrap_layout.proofs.Common.{IfOk-weaker}
use Rattle.textwrap_lines.specs.Steps.{AreWordsBetween}
use Rattle.textwrap_lines.proofs.InSteps.{split_at-are}

pub returns-clause-pieces : goal.returns-clause-pieces
returns-clause-pieces g c =
    search (rules, arith, c.in_ok-split.ensures, c.break_pieces.ensures, c.of.ensures, c.of-2.ensures)

pub returns-clause-are : goal.returns-clause-are
returns-clause-are g c =
    let paragraph = c.args.paragraph.now in
    let cuts = c.args.cuts.now in
    let words = map word_of (parts_between cuts paragraph) in
    IfOk-weaker c.break_pieces.result _ _ (λ pieces is. (
      words,
      split_at 0 c.args.points.now words,
      (cuts, c.requires.cuts, refl),
      split_at-are paragraph c.args.points.now c.requires.points words 0
          (sym (parts_between-tile cuts paragraph (inner-cuts paragraph cuts c.requires.cuts))),
      is,
    )) (returns-clause-pieces g c)

-- words between inner cuts tile the line
between-texts : (line : List ℕ) (words : List WordText) → IsUtf8 line → AreWordsBetween line words
    → AreTexts line words
between-texts line words utf8 (cuts, are, is) =
    subst (AreTexts line) (sym is) (parts-texts line cuts utf8 (inner-cuts line cuts are))

pub returns-clause-tiles : goal.returns-clause-tiles
returns-clause-tiles g c = IfOk-weaker c.break_pieces.result _ _ (λ pieces.
    pieces-tile (settings_view c.args.options.now) AreWordsBetween AreCuts between-texts
    (λ text points utf8 are. are) c.args.paragraph.now (map word_view pieces.items)
    c.utf8.paragraph) (returns-clause-are g c)
