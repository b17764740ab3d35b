use Rattle.textwrap_unicode.proofs.laws.lines_must_end.Goals as goal
use Rattle.textwrap_unicode.proofs.RuleLemmas.{feeds-end, must-after}

pub returns-clause-after : goal.returns-clause-after
returns-clause-after c = must-after

pub returns-clause-line_feeds : goal.returns-clause-line_feeds
returns-clause-line_feeds c = feeds-end
