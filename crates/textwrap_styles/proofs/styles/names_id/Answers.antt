use Rattle.textwrap_styles.proofs.styles.names_id.Goals as goal
use Rattle.textwrap_styles.proofs.LinkParameters.{id-begins, id-next, is_id}
use Rattle.textwrap_styles.proofs.styles.names_id.Goals.{else-begins-via-else-begins}
use Rattle.textwrap_styles.proofs.styles.names_id.Goals.{else-begins-via-then-begins+else-starts_with}
use Rattle.textwrap_text.proofs.Common.{◌&&◌, arith, cases_Bool, false, ne_eqb, ◌∙◌, ◌≡◌}

pub loop-left-init : goal.loop-left-init
loop-left-init c = id-begins c.args.fields.now

pub loop-left-preserved : goal.loop-left-preserved
loop-left-preserved c =
    let left = c.loop-left.left.now in
    let none : (c.loop-left.begins && is_id left) ≡ false =
    elim c.else-begins.branch [
      | else-begins-via-then-begins+else-starts_with w ↦ grind (arith, cases_Bool, w)
      | else-begins-via-else-begins w ↦ grind (arith, cases_Bool, w)
    ] in
    c.loop-left.invariant
    ∙ id-next c.loop-left.begins left (omega arith) (ne_eqb _ _ c.if-first-eq59.false) none
