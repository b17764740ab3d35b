use Rattle.textwrap_display.proofs.justified_lines.JustifiedLinesLineSink.push_line.Goals as goal
use Rattle.textwrap_display.proofs.{Common.HoldsJustified, Common.line_bytes, JustifiedLines.justified-one}
use Rattle.textwrap_layout.proofs.Common.{assembled_line, cut_line, lines_of}
use Rattle.textwrap_layout.proofs.Text.Sinks.{assembled-bytes, lines_of-more}
use Rattle.textwrap_text.proofs.Common.{[], ap, map, map-append, on_ok_weaker, subst, sym, ◌++◌, ◌∙◌, ◌∷◌}

pub returns-clause-pushed : goal.returns-clause-pushed
returns-clause-pushed g c =
    let indent = c.args.indent.now in
    let slice = c.args.slice.now in
    let penalty = c.args.penalty.now in
    let line = assembled_line indent slice penalty in
    on_ok_weaker c.take_line.result (λ takes. record {
      held = λ first start before given. subst (HoldsJustified first c.take_line.new.self)
          (ap (λ b. map line_bytes (lines_of before) ++ b ∷ []) (assembled-bytes indent slice penalty)
          ∙ sym (map-append line_bytes (lines_of before) (line ∷ []))
          ∙ ap (map line_bytes) (sym (lines_of-more before start (cut_line c.args.start line ∷ []))))
          (justified-one given takes);
    }) c.take_line.ensures
