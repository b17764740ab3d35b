use Rattle.textwrap.proofs.laws.common_prefixes_are_unique.Goals as goal
use Rattle.textwrap.proofs.Text.Unfilling.{common_prefixes_one}

pub returns : goal.returns
returns c = common_prefixes_one
