use Rattle.textwrap_plain.proofs.balancing.widest_at_blanks.Given as goal
use Rattle.textwrap_plain.specs.Widest.{widest_place}
use Rattle.textwrap_text.proofs.Common.{max, ◌≡◌}
use Rattle.textwrap_words.specs.PiecesLeft.{standing_left}

-- the widest so far, and that of the pieces that are left, are the widest of all
abbrev pub invariant-loop-piece : goal.invariant-loop-piece
invariant-loop-piece l =
    max l.widest (widest_place (standing_left l.piece-iterator)) ≡ widest_place (standing_left l.fn.pieces)
