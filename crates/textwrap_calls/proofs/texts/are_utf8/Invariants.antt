use Rattle.textwrap_calls.proofs.texts.are_utf8.Given as goal
use Rattle.textwrap_calls.specs.declared.texts.TextwrapText.{TextwrapText}
use Rattle.textwrap_calls.{proofs.Common.{get_or, ℕ, ◌<◌}, specs.Texts.IsText}

-- the texts so far are UTF-8
abbrev pub invariant-loop-text : goal.invariant-loop-text
invariant-loop-text l = (k : ℕ) (d : TextwrapText) → k < l.text-index
    → IsText (get_or l.texts k d)
