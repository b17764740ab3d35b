use Rattle.textwrap_patterns.specs.Written.{is_digit}
use Rattle.textwrap_text.proofs.Common.{prefix_len, ◌≡◌, ◌+◌, drop}
use Rattle.textwrap_dictionaries.proofs.parsing.digits_len.Given as goal

abbrev pub invariant-loop-i : goal.invariant-loop-i
invariant-loop-i l = prefix_len is_digit l.text ≡ l.i + prefix_len is_digit (drop l.i l.text)
