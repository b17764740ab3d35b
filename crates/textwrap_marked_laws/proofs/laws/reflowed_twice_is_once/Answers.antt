use Rattle.textwrap_marked_laws.proofs.laws.reflowed_twice_is_once.Goals as goal
use Rattle.textwrap_marked_laws.proofs.NewTexts.{texts-stay}

pub returns : goal.returns
returns c = texts-stay
