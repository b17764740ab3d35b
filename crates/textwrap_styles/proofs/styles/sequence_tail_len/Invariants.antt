use Rattle.textwrap_styles.proofs.styles.sequence_tail_len.Given as goal
use Rattle.std.specs.Str.Iter.{char_indices_rest}
use Rattle.textwrap_styles.proofs.Sequences.{IsReadTo}
use Rattle.textwrap_text.proofs.Common.{char_indices_offset}

-- the iterator has left what the reader has not read
abbrev pub invariant-loop-at : goal.invariant-loop-at
invariant-loop-at l =
    IsReadTo l.after (char_indices_offset l.at-iterator) (char_indices_rest l.at-iterator) l.state
