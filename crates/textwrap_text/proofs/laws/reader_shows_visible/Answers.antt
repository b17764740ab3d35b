use Rattle.textwrap_text.proofs.laws.reader_shows_visible.Goals as goal
use Rattle.textwrap_text.proofs.Units.Reading.{visible-step}

pub returns : goal.returns
returns c = visible-step
