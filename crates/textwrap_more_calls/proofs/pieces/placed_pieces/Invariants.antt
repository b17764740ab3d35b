use Rattle.textwrap_more_calls.proofs.pieces.placed_pieces.Given as goal
use Rattle.textwrap_calls.proofs.Common.{as_splitter, settings_view, standing_left}
use Rattle.textwrap_layout.proofs.Common.{pieces_of}
use Rattle.textwrap_more_calls.proofs.PieceLemmas.{HasLeft}

-- the places so far and those of the pieces that are left are those of all pieces
abbrev pub invariant-loop-piece : goal.invariant-loop-piece
invariant-loop-piece g l =
    HasLeft (pieces_of (settings_view l.options) (as_splitter l.fn.splitter) l.paragraph)
    l.pieces.items l.offset (standing_left l.piece-iterator)
