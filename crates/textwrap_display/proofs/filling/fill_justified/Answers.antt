use Rattle.textwrap_display.proofs.filling.fill_justified.Goals as goal
use Rattle.textwrap_display.proofs.Common.{HoldsJustified, line_bytes, passed-on}
use Rattle.textwrap_display.proofs.JustifiedLines.{justified-none, paragraph-written}
use Rattle.textwrap_display.proofs.JustifiedLines.{so_far-end, so_far-more, so_far-start}
use Rattle.textwrap_layout.proofs.{Common.cut_lines, Common.line_from, Text.Lines.paragraphs_left-split}
use Rattle.textwrap_layout.proofs.Text.Sinks.{lines_of-cut_lines, lines_of-more}
use Rattle.textwrap_text.proofs.Common.{[], ap, length-map, map, refl, subst, ◌∙◌}

pub loop-rest-init : goal.loop-rest-init
loop-rest-init g c = record {
  so_far = so_far-start c.args.text.now _ c.in_ok-filled.ensures.bytes;
  waits = refl;
  layout_is = refl;
}

pub loop-rest-preserved : goal.loop-rest-preserved
loop-rest-preserved g c =
    let first = c.loop-rest.lines in
    let so_far = c.loop-rest.invariant in
    let (own, are, pushed) = c.in_ok-push_paragraph_by.ensures.taken in
    let more = paragraph-written (subst (HoldsJustified first c.push_paragraph_by.new.lines)
    (ap (map line_bytes) (lines_of-more [] 0 (cut_lines 0 own) ∙ lines_of-cut_lines 0 own))
    (pushed.held first 0 [] (justified-none first so_far.waits)))
    c.in_ok-end_paragraph.ensures.written c.in_ok-end_paragraph.ensures.none in
    let split = paragraphs_left-split c.args.layout.line_ending c.in-Some.text.now
    c.split_paragraph.result.1 c.split_paragraph.result.0.now c.split_paragraph.ensures.paragraphs in
    record {
      so_far = so_far-more own (rw (c.in-Some.is, split) at so_far.so_far) are
          (cc (more.text, so_far.layout_is))
          (cc (more.has_lines, length-map (map line_from own) line_bytes, length-map own line_from));
      waits = more.waits;
      layout_is = more.layout_is ∙ so_far.layout_is;
    }

pub returns-clause-filled : goal.returns-clause-filled
returns-clause-filled g c = so_far-end (rw c.in_default.is at c.loop-rest.invariant.so_far)

pub returns-in_err-push_paragraph_by-clause-no_overflow :
    goal.returns-in_err-push_paragraph_by-clause-no_overflow
returns-in_err-push_paragraph_by-clause-no_overflow g c = λ never.
    let so_far = c.loop-rest.invariant.so_far in
    let split = paragraphs_left-split c.args.layout.line_ending c.in-Some.text.now
    c.split_paragraph.result.1 c.split_paragraph.result.0.now c.split_paragraph.ensures.paragraphs in
    passed-on c.from_residual-in_err-push_paragraph_by.result c.in_err-push_paragraph_by.field-0.0
    c.from_residual-in_err-push_paragraph_by.ensures.1 (c.in_err-push_paragraph_by.ensures.no_overflow
    (λ passes. never (so_far.done, _, _, rw (c.in-Some.is, split) at so_far.paragraphs, passes)))
