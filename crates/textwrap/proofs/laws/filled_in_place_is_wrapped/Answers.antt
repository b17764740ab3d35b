use Rattle.textwrap.proofs.laws.filled_in_place_is_wrapped.Goals as goal
use Rattle.textwrap.proofs.Text.InPlaceLines.{filled-wrapped, filled_one}

pub returns : goal.returns
returns c = record { unique = filled_one; wrapped = filled-wrapped }
