use Rattle.textwrap_lines.proofs.wrapping.tiled_len.Given as goal
use Rattle.textwrap_lines.proofs.Common.{IsUtf8, length, map, take, tiled, word_view, ◌≡◌}

-- the pieces so far are measured, and are text
abbrev pub invariant-loop-piece : goal.invariant-loop-piece
invariant-loop-piece l = (l.len ≡ length (tiled (map word_view (take l.piece-index l.pieces))))
    × IsUtf8 (tiled (map word_view (take l.piece-index l.pieces)))
