use Rattle.textwrap_styles.proofs.settings.fields_len.Given as goal
use Rattle.textwrap_styles.proofs.Common.{fields}
use Rattle.textwrap_text.proofs.Common.{◌+◌, ◌≡◌, drop, length}

-- all so far belong to the fields, and so do those that are left
abbrev pub invariant-loop-at : goal.invariant-loop-at
invariant-loop-at l =
    length (fields l.fn.count l.parameters) ≡ l.at + length (fields l.left (drop l.at l.parameters))
