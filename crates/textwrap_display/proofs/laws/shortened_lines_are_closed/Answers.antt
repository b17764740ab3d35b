use Rattle.textwrap_display.proofs.laws.shortened_lines_are_closed.Goals as goal
use Rattle.textwrap_display.proofs.ShortenedLines.{shortened-closed}

pub returns : goal.returns
returns c = shortened-closed
