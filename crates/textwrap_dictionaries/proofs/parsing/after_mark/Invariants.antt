use Rattle.textwrap_dictionaries.specs.Parsing.{after_mark}
use Rattle.textwrap_text.proofs.Common.{drop, ◌≡◌}
use Rattle.textwrap_dictionaries.proofs.parsing.after_mark.Given as goal

abbrev pub invariant-loop-at : goal.invariant-loop-at
invariant-loop-at l = after_mark l.mark (drop l.at l.line) ≡ after_mark l.mark l.line
