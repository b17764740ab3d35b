use Rattle.textwrap_text.proofs.widths.sequence_columns.Given as goal
use Rattle.textwrap_text.proofs.Common.{char_indices_offset, char_indices_rest}
use Rattle.textwrap_text.proofs.Units.Reading.{IsMeasured}

-- the iterator has left what the reader has not read
abbrev pub invariant-loop-at : goal.invariant-loop-at
invariant-loop-at l =
    IsMeasured l.text (char_indices_offset l.at-iterator) (char_indices_rest l.at-iterator) l.state
    l.width
