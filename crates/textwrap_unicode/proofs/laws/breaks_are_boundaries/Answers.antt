use Rattle.textwrap_unicode.proofs.laws.breaks_are_boundaries.Goals as goal
use Rattle.textwrap_unicode.proofs.TextBreaks.{contains-end, contains-within}

pub returns-clause-boundaries : goal.returns-clause-boundaries
returns-clause-boundaries c = λ numbers text place utf8 inside.
    contains-within numbers text utf8 place inside

pub returns-clause-end : goal.returns-clause-end
returns-clause-end c = λ numbers text utf8 some. contains-end numbers text utf8 some
