use Rattle.textwrap_lines.proofs.Paragraph.KeepsTo.{passed-on}
use Rattle.textwrap_lines.proofs.wrapping.wrap_by.Goals as goal
use Rattle.textwrap_lines.proofs.Common.{AreTextLines, layout_view, rules, subst, sym, ◌∙◌}
use Rattle.textwrap_layout.specs.Paragraph.{DividesWith}

pub returns-clause-lines : goal.returns-clause-lines
returns-clause-lines g c =
    let parts = c.args.parts.now in
    let settings = layout_view c.args.layout in
    let (taken, are, end, holds) = c.in_ok-fill_to.ensures.lines in
    subst (AreTextLines settings (DividesWith (g.P.Parts.may parts) settings) c.args.text.now)
    (sym (search rules ∙ holds)) are.are

pub returns-in_err-fill_to-clause-only_memory : goal.returns-in_err-fill_to-clause-only_memory
returns-in_err-fill_to-clause-only_memory g c = λ never.
    passed-on c.from_residual.result c.in_err-fill_to.field-0.0 c.from_residual.ensures.1
    (c.in_err-fill_to.ensures.only_memory never)
