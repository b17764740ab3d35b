use Rattle.textwrap_layout.proofs.lent_places.LentPlaces.push_built.Goals as goal
use Rattle.textwrap_text.proofs.Common.{arith}
use Rattle.std.proofs.lemmas.Grind.{common_steps}

pub returns : goal.returns
returns c = grind (arith, common_steps)
