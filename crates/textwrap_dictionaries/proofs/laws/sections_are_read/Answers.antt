use Rattle.textwrap_dictionaries.proofs.Sections.{sections-read}
use Rattle.textwrap_dictionaries.proofs.laws.sections_are_read.Goals as goal

pub returns : goal.returns
returns c = sections-read
