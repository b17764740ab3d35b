use Rattle.textwrap_more_calls.proofs.balancing.textwrap_balanced_width.Goals as goal
use Rattle.textwrap_more_calls.proofs.BalanceLemmas.{refused-not_utf8}

pub returns-in-Err-clause-not_utf8 : goal.returns-in-Err-clause-not_utf8
returns-in-Err-clause-not_utf8 c = refused-not_utf8 c.in-Err.ensures.refused
