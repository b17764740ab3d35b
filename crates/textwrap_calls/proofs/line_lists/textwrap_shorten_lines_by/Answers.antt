use Rattle.textwrap_calls.proofs.{Common.{◌∙◌, ap}, PlaceLemmas.rows-written, TextLemmas.short-by}
use Rattle.textwrap_display.specs.declared.shortening.Shortening.{Shortening}
use Rattle.textwrap_calls.proofs.line_lists.textwrap_shorten_lines_by.Goals as goal

pub returns-in-Ok-place_shortened-clause-short : goal.returns-in-Ok-place_shortened-clause-short
returns-in-Ok-place_shortened-clause-short c =
    let (rows, short, placed) = c.in-Ok-place_shortened.ensures in
    let first = c.new.ensures in
    let by = c.break_words-shortening.ensures in
    rows-written rows (short-by (ap (λ (s : Shortening). s.break_words) by)
    (ap (λ (s : Shortening). s.width) by ∙ first.width)
    (ap (λ (s : Shortening). s.placeholder.now) by ∙ first.placeholder ∙ c.in-Ok.ensures.0) short)
    placed c.put_lines.ensures.statuses c.put_lines.ensures.lines
