use Rattle.textwrap_layout.proofs.lent_places.LentPlaces.add_line.Goals as goal
use Rattle.textwrap_text.proofs.Common.{length-append, length, ne_eqb, arith, subst, ◌++◌, sym, ◌≡◌}
use Rattle.textwrap_layout.proofs.Common.{AddsPlace}
use Rattle.textwrap_layout.specs.Paragraph.{assembled_line, Built}

pub returns-then-indent-penalty-gt0 : goal.returns-then-indent-penalty-gt0
returns-then-indent-penalty-gt0 c =
    let indent = c.args.indent.now in
    let slice = c.args.slice.now in
    let penalty = c.args.penalty.now in
    let built : assembled_line indent slice penalty ≡ Built (indent ++ slice ++ penalty) =
    rw (ne_eqb (length (indent ++ penalty)) 0 (λ none. omega (arith, none, length-append indent penalty))) in
    subst (AddsPlace _ _ _) (sym built) (c.push_built.ensures _)
