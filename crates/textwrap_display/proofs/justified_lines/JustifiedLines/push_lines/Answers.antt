use Rattle.textwrap_display.proofs.justified_lines.JustifiedLines.push_lines.Goals as goal
use Rattle.textwrap_display.proofs.Common.{HoldsJustified, line_bytes, line_bytes-line_view, line_view}
use Rattle.textwrap_display.proofs.JustifiedLines.{justified-none, justified-one, paragraph-written}
use Rattle.textwrap_layout.proofs.Text.Sinks.{on_ok_both}
use Rattle.textwrap_text.proofs.Common.{[], ap, append-nil, arith, map, map_push, subst, sym}
use Rattle.textwrap_text.proofs.Common.{take, take_all, take_more, ◌++◌, ◌+◌, ◌∙◌, ◌∷◌, ◌≡◌}

pub loop-line-init : goal.loop-line-init
loop-line-init g c = justified-none c.args.self.now c.requires

pub loop-line-preserved : goal.loop-line-preserved
loop-line-preserved g c =
    let lines = c.args.lines.now in
    let i = c.loop-line.line-index in
    let line = c.line-item.result in
    let before = map line_bytes (map line_view (take i lines)) in
    let more : map line_bytes (map line_view (take (i + 1) lines)) ≡ before ++ line_bytes (line_view line) ∷ [] =
    rw (take_more lines i line c.loop-line-test.true, ← c.line-item.is) (simp map_push) in
    let text = append-nil c.as_str.result.now ∙ c.as_str.ensures.value ∙ sym (line_bytes-line_view line) in
    subst (HoldsJustified c.args.self.now c.take_line.new.self) (ap (λ b. before ++ b ∷ []) text ∙ sym more)
    (justified-one c.loop-line.invariant c.in_ok-take_line.ensures)

pub returns : goal.returns
returns g c = on_ok_both c.end_paragraph.result (paragraph-written
    (rw (take_all c.loop-line.line-index c.args.lines.now (omega arith)) at c.loop-line.invariant))
    c.end_paragraph.ensures.written c.end_paragraph.ensures.none
