use Rattle.textwrap_terminal.proofs.Kept.{IsInFirst}
use Rattle.textwrap_terminal.proofs.stripping.first_unit.Given as goal
use Rattle.textwrap_text.proofs.Common.{char_indices_offset, char_indices_rest}

-- the iterator has left what the reader has not read
abbrev pub invariant-loop-at : goal.invariant-loop-at
invariant-loop-at l =
    IsInFirst l.text (char_indices_offset l.at-iterator) (char_indices_rest l.at-iterator) l.state
    l.first l.is_common
