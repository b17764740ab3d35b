use Rattle.textwrap_display.proofs.laws.shortened_lines_keep_to_width.Goals as goal
use Rattle.textwrap_display.proofs.ShortenedLines.{shortened-width}

pub returns : goal.returns
returns c = λ breaks width placeholder line short utf8 room is.
    shortened-width breaks width placeholder line short utf8 is room
