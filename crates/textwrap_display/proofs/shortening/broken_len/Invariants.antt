use Rattle.textwrap_display.proofs.shortening.broken_len.Given as goal
use Rattle.textwrap_display.proofs.KeptLines.{IsReadWord}
use Rattle.textwrap_text.proofs.Common.{characters_left, ◌≤◌}

-- the iterator has left what the reader has not read
abbrev pub invariant-loop-character : goal.invariant-loop-character
invariant-loop-character l = record {
  read : IsReadWord l.left l.text (characters_left l.character-iterator) l.taken l.cut;
  room : l.taken ≤ l.room;
}
