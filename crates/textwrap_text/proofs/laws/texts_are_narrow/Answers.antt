use Rattle.textwrap_text.proofs.laws.texts_are_narrow.Goals as goal
use Rattle.textwrap_text.proofs.Units.Reading.{all-narrow}

pub returns : goal.returns
returns c = all-narrow
