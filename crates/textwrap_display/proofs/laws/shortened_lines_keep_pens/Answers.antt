use Rattle.textwrap_display.proofs.laws.shortened_lines_keep_pens.Goals as goal
use Rattle.textwrap_display.proofs.ShortenedLines.{shortened-pens}

pub returns : goal.returns
returns c = shortened-pens
