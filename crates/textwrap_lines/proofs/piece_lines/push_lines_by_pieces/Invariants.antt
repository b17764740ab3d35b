use Rattle.textwrap_lines.proofs.piece_lines.push_lines_by_pieces.Given as goal
use Rattle.textwrap_lines.proofs.Common.{frame_settings, left_standing, line_so_far, lines_past}
use Rattle.textwrap_lines.proofs.Common.{HasTaken, ◌≡◌}
use Rattle.textwrap_lines.proofs.PieceLines.{AllCome}

-- the lines before the last one were taken, and the pieces that are left come after it
abbrev pub invariant-loop-piece : goal.invariant-loop-piece
invariant-loop-piece g l = record {
  taken : HasTaken g.S.LineSink.holds (lines_past (frame_settings l.frame)
      (line_so_far l.initial.line) (left_standing l.initial.piece-iterator)) l.initial.lines l.lines
      (lines_past (frame_settings l.frame) (line_so_far l.line) (left_standing l.piece-iterator));
  come : AllCome l.line.text.now l.line.bounds.end (left_standing l.piece-iterator);
  name : g.S.LineSink.name l.lines ≡ g.S.LineSink.name l.initial.lines;
}
