use Rattle.textwrap_lines.proofs.Common.{drop, first_width, frame_settings, IsCharBoundary, length, map, tiled}
use Rattle.textwrap_lines.proofs.Common.{word_view, ◌++◌, ◌-◌, ◌<◌, ◌^◌, ◌≡◌, ◌≤◌}
use Rattle.textwrap_lines.proofs.PrintableWords.{words_from}
use Rattle.textwrap_lines.proofs.WordLines.{AreTaken}
use Rattle.textwrap_lines.proofs.printable_words.push_printable_words.Given as goal

-- the words before the place are taken
abbrev pub invariant-loop-at : goal.invariant-loop-at
invariant-loop-at g l = record {
  within : l.at ≤ length l.paragraph;
  small : l.line.columns < 2 ^ 66;
  begins : IsCharBoundary l.paragraph l.line.start;
  seam : drop l.line.start l.paragraph ≡ tiled (map word_view l.held.items) ++ drop l.at l.paragraph;
  taken : AreTaken g.S.LineSink.holds (frame_settings l.frame) (g.P.Parts.may l.parts).Points
      (words_from (g.C.PrintableCuts.cuts l.cuts l.paragraph) l.paragraph 0)
      (first_width (frame_settings l.frame) l.frame.is_later) l.frame.is_later l.initial.lines l.line
      (map word_view l.held.items) l.lines
      (words_from (g.C.PrintableCuts.cuts l.cuts l.paragraph) l.paragraph l.at);
  name : g.S.LineSink.name l.lines ≡ g.S.LineSink.name l.initial.lines;
}

abbrev pub decreases-loop-at : goal.decreases-loop-at
decreases-loop-at g l = length l.text - l.at
