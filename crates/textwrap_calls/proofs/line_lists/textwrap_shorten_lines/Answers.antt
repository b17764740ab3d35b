use Rattle.textwrap_calls.proofs.{Common.◌∙◌, PlaceLemmas.rows-written, TextLemmas.short-by}
use Rattle.textwrap_calls.proofs.line_lists.textwrap_shorten_lines.Goals as goal

pub returns-in-Ok-place_shortened-clause-short : goal.returns-in-Ok-place_shortened-clause-short
returns-in-Ok-place_shortened-clause-short c =
    let (rows, short, placed) = c.in-Ok-place_shortened.ensures in
    let by = c.new.ensures in
    rows-written rows (short-by by.break_words by.width (by.placeholder ∙ c.in-Ok.ensures.0) short)
    placed c.put_lines.ensures.statuses c.put_lines.ensures.lines
