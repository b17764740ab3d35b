use Rattle.textwrap_display.proofs.needs.column_need.Given as goal
use Rattle.textwrap_display.proofs.Common.{chunks_rest, chunks_size, column_texts, flat_map, widest}
use Rattle.textwrap_display.specs.{Needs.lines_in, Needs.words_in, Tables.texts_in}
use Rattle.textwrap_text.proofs.Common.{max, ◌≡◌}

-- with what is left, the widest so far are the widest of all
abbrev pub invariant-loop-row : goal.invariant-loop-row
invariant-loop-row l =
    let left = column_texts l.columns (texts_in (chunks_rest l.row-iterator)) l.column in
    let all = column_texts l.columns (texts_in l.cells) l.column in
    record {
      size : chunks_size l.row-iterator ≡ l.columns;
      words : max l.need.least (widest (flat_map words_in left)) ≡ widest (flat_map words_in all);
      lines : max l.need.most (widest (flat_map lines_in left)) ≡ widest (flat_map lines_in all);
    }
