use Rattle.textwrap_marked_laws.proofs.laws.earlier_widths_make_no_difference.Goals as goal
use Rattle.textwrap_marked_laws.proofs.NewTexts.{widths-same}

pub returns : goal.returns
returns c = widths-same
