use Rattle.textwrap_patterns.proofs.Ascii.{lowered-even, lowered-more_even, lowered-more_odd, lowered-odd}
use Rattle.textwrap_patterns.proofs.letters.is_lower_latin.Goals as goal

pub returns-then-ch-le311 : goal.returns-then-ch-le311
returns-then-ch-le311 c = lowered-odd c.args.ch c.if-ch-ge256.true c.if-ch-le311.true

pub returns-then-ch-le328 : goal.returns-then-ch-le328
returns-then-ch-le328 c = lowered-even c.args.ch c.if-ch-ge312.true c.if-ch-le328.true

pub returns-then-ch-le375 : goal.returns-then-ch-le375
returns-then-ch-le375 c = lowered-more_odd c.args.ch c.if-ch-ge330.true c.if-ch-le375.true

pub returns-then-ch-le382 : goal.returns-then-ch-le382
returns-then-ch-le382 c = lowered-more_even c.args.ch c.if-ch-ge377.true c.if-ch-le382.true
