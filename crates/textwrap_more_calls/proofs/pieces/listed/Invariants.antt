use Rattle.textwrap_more_calls.proofs.pieces.listed.Given as goal
use Rattle.textwrap_calls.proofs.Common.{◌≡◌, ◌++◌, map, word_view}
use Rattle.textwrap_words.proofs.Common.{pieces_left}

-- the list so far, and the pieces that are left, are all pieces
abbrev pub invariant-loop-piece : goal.invariant-loop-piece
invariant-loop-piece l =
    map word_view l.list.items ++ pieces_left l.piece-iterator ≡ pieces_left l.fn.pieces
