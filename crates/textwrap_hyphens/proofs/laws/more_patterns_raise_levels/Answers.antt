use Rattle.textwrap_hyphens.proofs.MoreLevels.{level-more}
use Rattle.textwrap_hyphens.proofs.laws.more_patterns_raise_levels.Goals as goal

pub returns : goal.returns
returns c = level-more
