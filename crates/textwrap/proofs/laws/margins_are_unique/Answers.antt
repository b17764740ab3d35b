use Rattle.textwrap.proofs.laws.margins_are_unique.Goals as goal
use Rattle.textwrap.proofs.Text.Margins.{lines_begin_with_margin, margins_one}

pub returns : goal.returns
returns c = record { unique = margins_one; begins = lines_begin_with_margin }
