use Rattle.textwrap_lines.proofs.least_cost.push_lines.Given as goal
use Rattle.textwrap_lines.proofs.Common.{drop, frame_settings, HasTaken, HaveTexts, map, span_lines}
use Rattle.textwrap_lines.proofs.Common.{◌≡◌}

-- the lines so far were taken, and the others are found in the rest of the text
abbrev pub invariant-loop-line : goal.invariant-loop-line
invariant-loop-line g l = record {
  taken : HasTaken g.S.LineSink.holds (span_lines (frame_settings l.frame) l.paragraph l.frame.is_later 0
      (map (λ line. line.now) l.division)) l.initial.lines l.lines
      (span_lines (frame_settings l.frame) l.paragraph l.has_line l.start
      (map (λ line. line.now) (drop l.line-index l.division)));
  texts : HaveTexts l.paragraph l.start (map (λ line. line.now) (drop l.line-index l.division));
  name : g.S.LineSink.name l.lines ≡ g.S.LineSink.name l.initial.lines;
}
