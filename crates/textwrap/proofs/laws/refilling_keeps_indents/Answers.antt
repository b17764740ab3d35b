use Rattle.textwrap.proofs.laws.refilling_keeps_indents.Goals as goal
use Rattle.textwrap.proofs.Text.PlainFilled.{refilled-indented, refilled-once}

pub returns : goal.returns
returns c = record { indents = refilled-indented; twice = refilled-once }
