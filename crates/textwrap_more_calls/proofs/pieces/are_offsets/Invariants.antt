use Rattle.textwrap_more_calls.proofs.pieces.are_offsets.Given as goal
use Rattle.textwrap_calls.proofs.Common.{characters_left, length, shown_text, stripped, visible}
use Rattle.textwrap_calls.proofs.Common.{chars, shown, ◌+◌, ◌≡◌}
use Rattle.textwrap_more_calls.proofs.{Common.offsets_past, OffsetLemmas.left_after}

-- the bytes that are shown so far and those ahead are all, and the offsets that are left are those
-- that the characters ahead have still to pass
abbrev pub invariant-loop-character : goal.invariant-loop-character
invariant-loop-character l =
    let ahead = characters_left l.character-iterator in record {
      bytes : l.shown + length (shown_text ahead) ≡ length (stripped l.line);
      offsets : left_after l.shown (shown ahead) l.left
          ≡ left_after 0 (visible (chars l.line)) (offsets_past 0 l.offsets);
    }
