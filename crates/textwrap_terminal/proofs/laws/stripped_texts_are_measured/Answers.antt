use Rattle.textwrap_terminal.proofs.Measured.{measured}
use Rattle.textwrap_terminal.proofs.laws.stripped_texts_are_measured.Goals as goal

pub returns : goal.returns
returns c = measured
