use Rattle.textwrap_styles.proofs.styles.names_id.Given as goal
use Rattle.textwrap_styles.{proofs.LinkParameters.id_left, specs.Styles.names_id}
use Rattle.textwrap_text.proofs.Common.{length, ◌≡◌}

-- what was passed names none
abbrev pub invariant-loop-left : goal.invariant-loop-left
invariant-loop-left l = names_id l.fields ≡ id_left l.begins l.left

abbrev pub decreases-loop-left : goal.decreases-loop-left
decreases-loop-left l = length l.left
