-- The lemmas that the laws are proved by.
use Rattle.textwrap_styles.proofs.CarriedLines.{all-may_carry, bare-carried, carried, plain-stay}
use Rattle.textwrap_styles.proofs.{FewStyles.{few-known, styles-short}, FewestSettings.{fewest, open-setters}}
use Rattle.textwrap_styles.proofs.{LinkIds.{ids-kept, ids-named}, PenCodes.{other-something, unknown-nothing}}
use Rattle.textwrap_styles.proofs.{PenStyles.styles-pen, WrittenSettings.styles-anew}

pub ruleset few = (all-may_carry, bare-carried, carried, few-known, fewest, ids-kept, ids-named, styles-short)

pub ruleset laws = (few, open-setters, other-something, plain-stay, styles-anew, styles-pen, unknown-nothing)
