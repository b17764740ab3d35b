use Rattle.textwrap_dictionaries.proofs.Skipped.{blanks-skipped, lists-skipped, tex-skipped}
use Rattle.textwrap_dictionaries.proofs.laws.comments_are_skipped.Goals as goal

pub returns : goal.returns
returns c = record { lists = lists-skipped; blanks = blanks-skipped; tex = tex-skipped }
