use Rattle.textwrap_terminal.proofs.Kept.{all-kept}
use Rattle.textwrap_terminal.proofs.stripping.strip_other_sequences.Goals as goal
use Rattle.textwrap_text.proofs.Common.{arith}

pub returns-then-not-has_other-clause-text : goal.returns-then-not-has_other-clause-text
returns-then-not-has_other-clause-text g c = grind (arith, all-kept)
