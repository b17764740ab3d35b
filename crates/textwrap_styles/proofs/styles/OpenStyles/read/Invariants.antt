use Rattle.textwrap_styles.proofs.styles.OpenStyles.read.Given as goal
use Rattle.textwrap_styles.{proofs.Common.{IsKeptAfter, sequences}, specs.OpenStyles.IsReadTo}
use Rattle.textwrap_text.proofs.Common.{◌++◌, length, List, shadow, Utf8, ℕ, ◌≡◌}

-- some sequences were taken, and those of what is left follow them
abbrev pub invariant-loop-sequence : goal.invariant-loop-sequence
invariant-loop-sequence g l = record {
  takes : (before : List (List ℕ)) → IsKeptAfter before l.fn.self
      → (taken : List (List ℕ)) × IsReadTo (before ++ taken) l.self
      × (sequences l.fn.text ≡ taken ++ sequences l.left);
  utf8 : shadow (Utf8 l.left);
}

abbrev pub decreases-loop-sequence : goal.decreases-loop-sequence
decreases-loop-sequence g l = length l.left
