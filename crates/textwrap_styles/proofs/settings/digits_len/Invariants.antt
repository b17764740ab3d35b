use Rattle.textwrap_styles.proofs.settings.digits_len.Given as goal
use Rattle.textwrap_styles.proofs.Common.{is_ascii_digit}
use Rattle.textwrap_text.proofs.Common.{◌+◌, drop, prefix_len, ◌≡◌}

-- all so far are digits
abbrev pub invariant-loop-at : goal.invariant-loop-at
invariant-loop-at l =
    prefix_len is_ascii_digit l.parameters ≡ l.at + prefix_len is_ascii_digit (drop l.at l.parameters)
