use Rattle.textwrap_display.proofs.needs.column_need.Goals as goal
use Rattle.textwrap_display.proofs.{Common.chunks_rest, FittingWidths.widest-more, TableGroups.first-group}
use Rattle.textwrap_display.specs.Needs.{lines_in, words_in}
use Rattle.textwrap_text.proofs.Common.{arith, ◌∙◌}

pub loop-row-preserved : goal.loop-row-preserved
loop-row-preserved c =
    let (size, chunk) = c.in-Some.ensures.steps in
    let row = first-group (λ text. text.now) (chunks_rest c.loop-row.row-iterator) c.in-Some.row.now
    (chunks_rest c.next.new.self) (omega (arith, c.requires, c.loop-row.invariant.size))
    c.loop-row.invariant.size chunk in
    record {
      size = size ∙ c.loop-row.invariant.size;
      words = rw (c.max.ensures, c.widest_word.ensures, c.text_at-text.ensures)
          (widest-more words_in c.args.columns c.args.column c.loop-row.need.least _ _ _ row
          ∙ c.loop-row.invariant.words);
      lines = rw (c.max-in-loop-row.ensures, c.widest_part.ensures, c.text_at-text.ensures)
          (widest-more lines_in c.args.columns c.args.column c.loop-row.need.most _ _ _ row
          ∙ c.loop-row.invariant.lines);
    }
