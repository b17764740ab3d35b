use Rattle.textwrap_lines.proofs.word_lines.WordLine.take_pieces.Given as goal
use Rattle.textwrap_lines.proofs.Common.{drop, frame_settings, IsCharBoundary, List, map, take, tiled}
use Rattle.textwrap_lines.proofs.Common.{word_view, ◌++◌, ◌<◌, ◌^◌, ◌≡◌, ℕ}
use Rattle.textwrap_lines.specs.WordLines.{GoesOnBehind}

-- the pieces before this one are taken
abbrev pub invariant-loop-piece : goal.invariant-loop-piece
invariant-loop-piece g l = record {
  small : l.next.columns < 2 ^ 66;
  begins : IsCharBoundary l.paragraph l.next.start;
  seam : (rest : List ℕ) → drop l.fn.self.start l.paragraph
      ≡ tiled (map word_view l.initial.held.items) ++ tiled (map word_view l.pieces) ++ rest
      → drop l.next.start l.paragraph ≡ tiled (map word_view l.held.items)
      ++ tiled (map word_view (drop l.piece-index l.pieces)) ++ rest;
  lines : GoesOnBehind g.S.LineSink.holds (frame_settings l.frame) l.fn.self
      (map word_view l.initial.held.items) l.initial.lines (map word_view (take l.piece-index l.pieces))
      l.next (map word_view l.held.items) l.lines;
  name : g.S.LineSink.name l.lines ≡ g.S.LineSink.name l.initial.lines;
}
