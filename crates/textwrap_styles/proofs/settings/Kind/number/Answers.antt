use Rattle.textwrap_styles.proofs.settings.Kind.number.Goals as goal
use denote.Enum.Declared.{tag_of}
use Rattle.textwrap_styles.{proofs.Common.{Kind, Reset}, specs.contracts.settings.Kind.the_type}
use Rattle.textwrap_styles.specs.Settings.{number}
use Rattle.textwrap_text.proofs.Common.{◌≡◌, refl}

tag : (k : Kind) → tag_of the_type k ≡ number k
unfolding number
tag Reset = refl
tag _ = refl

pub returns-clause-place : goal.returns-clause-place
returns-clause-place c = tag c.args.self
