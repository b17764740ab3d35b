use Rattle.textwrap_text.proofs.laws.units_are_unique.Goals as goal
use Rattle.textwrap_text.proofs.Units.Texts.{units_unique}

pub returns : goal.returns
returns c = units_unique
