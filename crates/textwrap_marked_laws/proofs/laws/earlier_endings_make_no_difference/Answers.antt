use Rattle.textwrap_marked_laws.proofs.laws.earlier_endings_make_no_difference.Goals as goal
use Rattle.textwrap_marked_laws.proofs.NewTexts.{endings-same}

pub returns : goal.returns
returns c = endings-same
