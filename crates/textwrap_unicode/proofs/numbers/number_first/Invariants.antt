use Rattle.textwrap_text.proofs.ClassNames.{◌≡◌, drop, length, chars}
use Rattle.textwrap_unicode.proofs.Common.{number_first}
use Rattle.textwrap_unicode.proofs.numbers.number_first.Given as goal

-- the characters to come give the answer
abbrev pub invariant-loop-c : goal.invariant-loop-c
invariant-loop-c l =
    number_first (drop (length l.yielded) (chars l.text)) ≡ number_first (chars l.text)
