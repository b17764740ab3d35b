use Rattle.textwrap_terminal.proofs.Measured.{stay}
use Rattle.textwrap_terminal.proofs.laws.stripped_texts_stay.Goals as goal

pub returns : goal.returns
returns c = stay
