use Rattle.textwrap_lines.proofs.wrapping.push_paragraph.Goals as goal
use Rattle.textwrap_lines.proofs.Common.{frame_settings, on_ok_weaker, parts_from, parts_of, refl}
use Rattle.textwrap_lines.proofs.Common.{[], sym, word_of, ◌∙◌, ◌∷◌}
use Rattle.textwrap_layout.proofs.Paragraph.LeftOff.{AreParagraphParts-divided, line_from-whole}
use Rattle.textwrap_layout.proofs.Paragraph.LeftOff.{AreParagraphParts-whole}
use Rattle.textwrap_layout.specs.Paragraph.{DividesWith}

pub returns-then-is_one_line-clause-taken : goal.returns-then-is_one_line-clause-taken
returns-then-is_one_line-clause-taken g c =
    let settings = frame_settings c.args.frame.now in
    let is_later = c.args.frame.now.is_later in
    let paragraph = c.args.paragraph.now in
    let whole = sym (rw c.args.frame.now.indented at c.is_one_line.ensures)
    ∙ c.if-is_one_line.true in (
      parts_of settings is_later (word_of paragraph ∷ []) ∷ [],
      AreParagraphParts-whole settings (DividesWith (g.P.Parts.may c.args.parts.now) settings) is_later
          paragraph whole,
      rw (line_from-whole settings is_later paragraph whole)
          (rw c.whole_line-slice.ensures at c.in_ok-push_line.ensures.pushed),
    )

pub returns-clause-taken : goal.returns-clause-taken
returns-clause-taken g c =
    let settings = frame_settings c.args.frame.now in
    let is_later = c.args.frame.now.is_later in
    on_ok_weaker c.push_pieces.result (λ (division, divides, took). (
      parts_from settings is_later division,
      AreParagraphParts-divided settings (DividesWith (g.P.Parts.may c.args.parts.now) settings) is_later
          c.args.paragraph.now (parts_from settings is_later division)
          (sym (rw c.args.frame.now.indented at c.is_one_line.ensures)
          ∙ c.if-is_one_line.false) (division, divides, refl),
      took,
    )) c.push_pieces.ensures.taken
