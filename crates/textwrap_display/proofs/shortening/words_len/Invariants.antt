use Rattle.textwrap_display.proofs.shortening.words_len.Given as goal
use Rattle.textwrap_display.proofs.{Common.char_indices_rest, KeptLines.IsFound, KeptWords.IsReadTo}
use Rattle.textwrap_text.proofs.Common.{char_indices_offset}

-- the iterator has left what the reader has not read
abbrev pub invariant-loop-at : goal.invariant-loop-at
invariant-loop-at l = record {
  read : IsReadTo l.line (char_indices_offset l.at-iterator) (char_indices_rest l.at-iterator)
      l.state l.taken l.after_blank;
  found : IsFound l.room l.line (char_indices_offset l.at-iterator) l.kept;
}
