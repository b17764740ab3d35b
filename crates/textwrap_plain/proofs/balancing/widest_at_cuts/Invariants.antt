use Rattle.textwrap_plain.proofs.balancing.widest_at_cuts.Given as goal
use Rattle.textwrap_plain.specs.Widest.{widest_place}
use Rattle.textwrap_text.proofs.Common.{max, ◌≡◌}
use Rattle.textwrap_words.specs.CutPiecesLeft.{cut_standing_left}

-- the widest so far, and that of the pieces that are left, are the widest of all
abbrev pub invariant-loop-piece : goal.invariant-loop-piece
invariant-loop-piece l =
    max l.widest (widest_place (cut_standing_left l.piece-iterator)) ≡ widest_place (cut_standing_left l.fn.pieces)
