use Rattle.textwrap_text.proofs.Common.{◌≡◌, ◌+◌, drop}
use Rattle.textwrap_patterns.specs.Letters.{run_len}
use Rattle.textwrap_patterns.proofs.letters.run_len.Given as goal

abbrev pub invariant-loop-i : goal.invariant-loop-i
invariant-loop-i l = run_len l.letters ≡ l.i + run_len (drop l.i l.letters)
