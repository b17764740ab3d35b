use Rattle.textwrap_lines.proofs.wrapping.push_text.Given as goal
use Rattle.textwrap_lines.proofs.Common.{layout_view, ◌≡◌}
use Rattle.textwrap_layout.proofs.Text.Lines.{bytes_left, paragraphs_left}
use Rattle.textwrap_layout.proofs.Text.Sinks.{HasParagraphs}
use Rattle.textwrap_layout.specs.Paragraph.{DividesWith}

-- the lines that were taken, and those of the paragraphs left, are the lines of the text
abbrev pub invariant-loop-rest : goal.invariant-loop-rest
invariant-loop-rest g l = record {
  lines : HasParagraphs (layout_view l.layout) (DividesWith (g.P.Parts.may l.parts) (layout_view l.layout))
      g.S.LineSink.holds l.text l.initial.lines l.lines (paragraphs_left l.line_ending l.rest)
      l.start;
  name : g.S.LineSink.name l.lines ≡ g.S.LineSink.name l.initial.lines;
}

abbrev pub decreases-loop-rest : goal.decreases-loop-rest
decreases-loop-rest g l = bytes_left l.rest
