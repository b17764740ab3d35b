use Rattle.textwrap_text.proofs.Common.{◌≡◌}
use Rattle.textwrap_patterns.proofs.written.characters_of.Given as goal

abbrev pub invariant-loop-ch : goal.invariant-loop-ch
invariant-loop-ch g l = l.characters.items ≡ l.yielded
