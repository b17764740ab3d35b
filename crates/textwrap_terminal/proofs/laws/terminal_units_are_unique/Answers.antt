use Rattle.textwrap_terminal.proofs.Units.{units_unique}
use Rattle.textwrap_terminal.proofs.laws.terminal_units_are_unique.Goals as goal

pub returns : goal.returns
returns c = units_unique
