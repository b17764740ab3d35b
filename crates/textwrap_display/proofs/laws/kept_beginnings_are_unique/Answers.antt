use Rattle.textwrap_display.proofs.laws.kept_beginnings_are_unique.Goals as goal
use Rattle.textwrap_display.proofs.ShortenedLines.{kept-unique}

pub returns : goal.returns
returns c = kept-unique
