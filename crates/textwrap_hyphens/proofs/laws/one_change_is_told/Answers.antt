use Rattle.textwrap_hyphens.proofs.Told.{change-told}
use Rattle.textwrap_hyphens.proofs.laws.one_change_is_told.Goals as goal

pub returns : goal.returns
returns c = change-told
