use Rattle.textwrap.proofs.Common.{word_view, drop, map, max, ◌≡◌, sizes_of}
use Rattle.textwrap_base.{proofs.Common.total_width, specs.Errors.Fits64Bits}
use Rattle.textwrap_plain.specs.Widest.{widest_of_words}
use Rattle.textwrap_plain.proofs.balancing.widest_of_list.Given as goal

-- the widest so far, and that of the pieces that are left, are the widest of all, and these fit a number
abbrev pub invariant-loop-piece : goal.invariant-loop-piece
invariant-loop-piece l = record {
  widest : max l.widest (widest_of_words (map word_view (drop l.piece-index l.pieces)))
      ≡ widest_of_words (map word_view l.pieces);
  fits : Fits64Bits (total_width sizes_of (map word_view (drop l.piece-index l.pieces)));
}
