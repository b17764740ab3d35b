use Rattle.textwrap_words.proofs.pieces.read_on.Given as goal
use Rattle.textwrap_text.proofs.Common.{char_indices_offset, drop, ◌++◌, ◌+◌, ◌≡◌}
use Rattle.std.specs.Str.Iter.{char_indices_rest}
use Rattle.textwrap_words.{proofs.Common.is_point, proofs.Common.is_stop, specs.Pieces.as_splitter}
use Rattle.textwrap_words.proofs.Word.Scanned.{GoesOn, IsScanned}

-- the reader stands before the characters that the iterator has left, where there is no point
abbrev pub invariant-loop-after : goal.invariant-loop-after
invariant-loop-after l =
    let place = l.start + char_indices_offset l.after-iterator in record {
      scanned : IsScanned (is_stop l.at_blanks (as_splitter l.splitter) l.text) l.limit l.text l.at
          place l.state l.width;
      on : GoesOn (is_point (as_splitter l.splitter) l.text) l.text l.at place;
      left : drop place l.text ≡ char_indices_rest l.after-iterator ++ drop l.end l.text;
    }
