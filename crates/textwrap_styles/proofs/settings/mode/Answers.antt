use Rattle.textwrap_styles.proofs.settings.mode.Goals as goal
use Rattle.textwrap_styles.specs.Settings.{code}
use Rattle.textwrap_text.proofs.Common.{nil_from_length}

pub returns-in-None : goal.returns-in-None
unfolding code
returns-in-None c = rw (nil_from_length c.args.details.now c.in-None.ensures.cases)
