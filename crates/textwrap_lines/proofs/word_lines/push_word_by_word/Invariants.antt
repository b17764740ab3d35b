use Rattle.textwrap_lines.proofs.word_lines.push_word_by_word.Given as goal
use Rattle.textwrap_lines.proofs.Common.{[], drop, first_width, frame_settings, IsCharBoundary, map, tiled}
use Rattle.textwrap_lines.proofs.Common.{word_view, ◌++◌, ◌<◌, ◌^◌, ◌≡◌}
use Rattle.textwrap_lines.proofs.WordLines.{AreTaken}

-- the words before this one are taken
abbrev pub invariant-loop-word : goal.invariant-loop-word
invariant-loop-word g l = record {
  small : l.line.columns < 2 ^ 66;
  begins : IsCharBoundary l.paragraph l.line.start;
  seam : drop l.line.start l.paragraph ≡ tiled (map word_view l.held.items)
      ++ tiled (map word_view (drop l.word-index l.word-items)) ++ [];
  taken : AreTaken g.S.LineSink.holds (frame_settings l.frame) (g.P.Parts.may l.parts).Points
      (map word_view l.word-items) (first_width (frame_settings l.frame) l.frame.is_later)
      l.frame.is_later l.initial.lines l.line (map word_view l.held.items) l.lines
      (map word_view (drop l.word-index l.word-items));
  name : g.S.LineSink.name l.lines ≡ g.S.LineSink.name l.initial.lines;
}
