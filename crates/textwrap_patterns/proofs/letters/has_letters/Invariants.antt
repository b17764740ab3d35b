use Rattle.textwrap_text.proofs.Common.{◌≡◌, drop}
use Rattle.textwrap_patterns.specs.Letters.{has_letters}
use Rattle.textwrap_patterns.proofs.letters.has_letters.Given as goal

abbrev pub invariant-loop-letter : goal.invariant-loop-letter
invariant-loop-letter l =
    has_letters l.least l.letters ≡ has_letters l.missing (drop l.letter-index l.letters)
