use Rattle.textwrap_terminal.proofs.Reading.{IsMeasured}
use Rattle.textwrap_terminal.proofs.widths.terminal_width.Given as goal
use Rattle.textwrap_text.proofs.Common.{char_indices_offset, char_indices_rest}

-- the iterator has left what the reader has not read
abbrev pub invariant-loop-ch : goal.invariant-loop-ch
invariant-loop-ch l =
    IsMeasured l.text (char_indices_offset l.ch-iterator) (char_indices_rest l.ch-iterator) l.state
    l.width
