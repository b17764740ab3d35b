use Rattle.textwrap_text.proofs.ClassNames.{ℕ, ◌-◌, ◌<◌}
use Rattle.textwrap_unicode.proofs.Common.{IsUsual}
use Rattle.textwrap_unicode.proofs.pairs.is_usual_up_to.Given as goal

abbrev pub invariant-loop-place : goal.invariant-loop-place
invariant-loop-place l = (0 < l.place) × ((k : ℕ) → 0 < k → k < l.place → IsUsual l.text k)

abbrev pub decreases-loop-place : goal.decreases-loop-place
decreases-loop-place l = l.end - l.place
