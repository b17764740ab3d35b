use Rattle.textwrap_marked_laws.proofs.laws.what_stands_apart_stays.Goals as goal
use Rattle.textwrap_marked_laws.proofs.NewParts.{kept-or-behind, new-parts}
use Rattle.textwrap_marked_laws.specs.Laws.{IsKeptOrBehind}

pub returns : goal.returns
returns c = λ options text reflowed none.
    new-parts options IsKeptOrBehind (kept-or-behind options none) text reflowed
