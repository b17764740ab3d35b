use Rattle.textwrap_display.proofs.filling.fill_justified.Given as goal
use Rattle.textwrap_display.proofs.Common.{bytes_left, layout_view, paragraphs_left}
use Rattle.textwrap_display.proofs.JustifiedLines.{IsJustifiedSoFar}
use Rattle.textwrap_layout.specs.Paragraph.{DividesWith}
use Rattle.textwrap_text.proofs.Common.{false, string_bytes, ◌≡◌}

-- with right lines of the paragraphs that are left, it is the whole
abbrev pub invariant-loop-rest : goal.invariant-loop-rest
invariant-loop-rest g l = record {
  so_far : IsJustifiedSoFar (layout_view l.layout)
      (DividesWith (g.P.Parts.may l.parts) (layout_view l.layout)) l.text
      (string_bytes l.lines.text) l.lines.has_lines (paragraphs_left l.layout.line_ending l.rest);
  waits : l.lines.waits ≡ false;
  layout_is : l.lines.layout ≡ l.layout;
}

abbrev pub decreases-loop-rest : goal.decreases-loop-rest
decreases-loop-rest g l = bytes_left l.rest
