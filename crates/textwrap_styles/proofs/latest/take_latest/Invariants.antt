use Rattle.textwrap_styles.proofs.latest.take_latest.Given as goal
use Rattle.textwrap_styles.{proofs.Common.latest, proofs.OpenSettings.texts, specs.OpenStyles.AreLater}
use Rattle.textwrap_text.proofs.Common.{◌++◌, Bor, List, reverse, ℕ, ◌≡◌}

-- some were taken from the end, and of these the latest were kept
abbrev pub invariant-loop-setting : goal.invariant-loop-setting
invariant-loop-setting g l = (taken : List (Bor (List ℕ))) × (l.fn.settings.items ≡ l.settings.items ++ taken)
    × AreLater (texts taken) l.later × (texts (reverse l.latest.items) ≡ latest (texts taken))

abbrev pub decreases-loop-setting : goal.decreases-loop-setting
decreases-loop-setting g l = goal.left-loop-setting g l
