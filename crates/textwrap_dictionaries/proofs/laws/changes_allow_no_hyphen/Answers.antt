use Rattle.textwrap_dictionaries.proofs.Changed.{changes-allow-none}
use Rattle.textwrap_dictionaries.proofs.laws.changes_allow_no_hyphen.Goals as goal

pub returns : goal.returns
returns c = changes-allow-none
