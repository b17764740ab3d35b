use Rattle.textwrap_text.proofs.Common.{◌≡◌}
use Rattle.textwrap_dictionaries.proofs.parsing.lines_of.Given as goal

abbrev pub invariant-loop-line : goal.invariant-loop-line
invariant-loop-line g l = l.lines.items ≡ l.yielded
