use Rattle.textwrap_unicode.proofs.laws.spaces_are_kept.Goals as goal
use Rattle.textwrap_unicode.proofs.RuleLemmas.{kept-after, return-kept}

pub returns-clause-spaces : goal.returns-clause-spaces
returns-clause-spaces c = kept-after

pub returns-clause-return_and_feed : goal.returns-clause-return_and_feed
returns-clause-return_and_feed c = return-kept
