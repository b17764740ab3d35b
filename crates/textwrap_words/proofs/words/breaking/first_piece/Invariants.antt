use Rattle.textwrap_words.proofs.words.breaking.first_piece.Given as goal
use Rattle.textwrap_text.proofs.Common.{char_indices_offset}
use Rattle.std.specs.Str.Iter.{char_indices_rest}
use Rattle.textwrap_words.proofs.Word.Scanned.{IsReading}

abbrev pub invariant-loop-at : goal.invariant-loop-at
invariant-loop-at l = IsReading l.line_width l.text (char_indices_offset l.at-iterator)
    (char_indices_rest l.at-iterator) l.state l.width
