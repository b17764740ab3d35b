use Rattle.textwrap_lines.proofs.wrapping.push_lines.Given as goal
use Rattle.textwrap_lines.proofs.Common.{frame_lines, frame_settings, IsCharBoundary, StartsWith}
use Rattle.textwrap_lines.proofs.Common.{cut_lines, drop, flat_map, HasTaken, parts_from, word_view}
use Rattle.textwrap_lines.proofs.Common.{map, tiled, ◌≡◌}

-- the lines so far were taken, and the rest of the paragraph begins with what the others tile
abbrev pub invariant-loop-pieces : goal.invariant-loop-pieces
invariant-loop-pieces g l = record {
  begins : IsCharBoundary l.paragraph l.start;
  starts : StartsWith (drop l.start l.paragraph)
      (flat_map (λ line. tiled (map word_view line.now)) (drop l.pieces-index l.division));
  taken : HasTaken g.S.LineSink.holds
      (frame_lines l.frame (map (λ line. map word_view line.now) l.division))
      l.initial.lines l.lines (cut_lines l.start (parts_from (frame_settings l.frame) l.has_line
      (map (λ line. map word_view line.now) (drop l.pieces-index l.division))));
  name : g.S.LineSink.name l.lines ≡ g.S.LineSink.name l.initial.lines;
}
