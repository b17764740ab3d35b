use Rattle.textwrap_lines.proofs.wrapping.push_text.Goals as goal
use Rattle.textwrap_lines.proofs.wrapping.push_text.Goals.{else-has_line, then-has_line}
use Rattle.textwrap_lines.proofs.Common.{AreParagraphParts, frame_settings, length}
use Rattle.textwrap_layout.specs.Direct.{AreParts}
use Rattle.textwrap_layout.specs.Paragraph.{MayPass64BitsBy}
use Rattle.std.specs.Prelude.{IfSome}
use Rattle.textwrap_lines.proofs.Common.{sym}
use Rattle.textwrap_lines.proofs.Common.{ap, layout_view, refl, subst, ◌++◌, ◌+◌, ◌∙◌, ◌≡◌}
use Rattle.textwrap_lines.proofs.Paragraph.KeepsTo.{passed-on}
use Rattle.textwrap_layout.proofs.Text.Lines.{paragraphs_left, paragraphs_left-split}
use Rattle.textwrap_layout.proofs.Text.Sinks.{HasParagraphs-more, HasParagraphs-start}
use Rattle.textwrap_layout.proofs.Text.Sinks.{HasParagraphs-end}
use Rattle.textwrap_layout.specs.Paragraph.{DividesWith}

pub loop-rest-init : goal.loop-rest-init
loop-rest-init g c =
    let parts = c.args.parts.now in
    let settings = layout_view c.args.layout in
    record {
      lines = HasParagraphs-start settings (DividesWith (g.P.Parts.may parts) settings)
          g.S.LineSink.holds c.args.text.now c.args.lines.now c.requires.none;
      name = refl;
    }

pub push_paragraph-requires : goal.push_paragraph-requires
push_paragraph-requires g c =
    let parts = c.args.parts.now in
    let framed : frame_settings c.if-has_line.frame.now ≡ layout_view c.args.layout =
    elim c.if-has_line.branch [
      | then-has_line w ↦ rw w.frame-is (ap layout_view (c.later.ensures.layout ∙ c.of.ensures.layout))
      | else-has_line w ↦ rw w.frame-is (ap layout_view c.of.ensures.layout)
    ] in
    λ k. (
      (refl, tt),
      subst (λ s. IfSome c.args.built_in (AreParts s (g.P.Parts.may parts).Words
          (DividesWith (g.P.Parts.may parts) s)))
          (sym framed) c.requires.built_in,
    )

pub loop-rest-preserved : goal.loop-rest-preserved
loop-rest-preserved g c =
    let parts = c.args.parts.now in
    let paragraph = c.split_paragraph.result.0.now in
    let after = c.split_paragraph.result.1 in
    let settings = layout_view c.args.layout in
    let framed : frame_settings c.if-has_line.frame.now ≡ layout_view c.args.layout =
    elim c.if-has_line.branch [
      | then-has_line w ↦ rw w.frame-is (ap layout_view (c.later.ensures.layout ∙ c.of.ensures.layout))
      | else-has_line w ↦ rw w.frame-is (ap layout_view c.of.ensures.layout)
    ] in
    let later : c.if-has_line.frame.now.is_later ≡ c.has_line.result =
    elim c.if-has_line.branch [
      | then-has_line w ↦ rw (w.frame-is, w.if-has_line.true) c.later.ensures.later
      | else-has_line w ↦ rw (w.frame-is, w.if-has_line.false) c.of.ensures.first
    ] in
    let Divides = DividesWith (g.P.Parts.may parts) in
    let (own, are, took) = c.in_ok-push_paragraph.ensures.taken in
    record {
      lines = HasParagraphs-more settings (Divides settings) g.S.LineSink.holds c.args.text.now
          c.args.lines.now c.loop-rest.lines c.begin_paragraph.new.self c.push_paragraph.new.lines _
          c.loop-rest.start _ paragraph c.has_line.result
          (rw (
            c.in-Some.is,
            paragraphs_left-split c.args.layout.line_ending c.in-Some.text.now after paragraph
                c.split_paragraph.ensures.paragraphs,
          ) at c.loop-rest.invariant.lines)
          (ap (λ bytes. c.loop-rest.start + (length paragraph + length bytes)) c.as_str.ensures)
          c.begin_paragraph.ensures.held c.has_line.ensures (
            own,
            subst (λ later. AreParagraphParts settings (Divides settings) later paragraph own)
                later (subst (λ s. AreParagraphParts s (Divides s) c.if-has_line.frame.now.is_later
                paragraph own) framed are),
            took,
          );
      name = c.push_paragraph.ensures.name ∙ c.begin_paragraph.ensures.name
          ∙ c.loop-rest.invariant.name;
    }

pub returns-in_err-push_paragraph-clause-no_overflow : goal.returns-in_err-push_paragraph-clause-no_overflow
returns-in_err-push_paragraph-clause-no_overflow g c = λ never.
    let parts = c.args.parts.now in
    let ending = c.args.layout.line_ending in
    let framed : frame_settings c.if-has_line.frame.now ≡ layout_view c.args.layout =
    elim c.if-has_line.branch [
      | then-has_line w ↦ rw w.frame-is (ap layout_view (c.later.ensures.layout ∙ c.of.ensures.layout))
      | else-has_line w ↦ rw w.frame-is (ap layout_view c.of.ensures.layout)
    ] in
    let left = ap (paragraphs_left ending) c.in-Some.is
    ∙ paragraphs_left-split ending c.in-Some.text.now c.split_paragraph.result.1
    c.split_paragraph.result.0.now c.split_paragraph.ensures.paragraphs in
    let so_far = c.loop-rest.invariant.lines in
    passed-on c.from_residual.result c.in_err-push_paragraph.field-0.0 c.from_residual.ensures.1
    (c.in_err-push_paragraph.ensures.no_overflow (λ passes. never (
      so_far.done,
      c.split_paragraph.result.0.now,
      paragraphs_left ending c.split_paragraph.result.1,
      so_far.paragraphs ∙ ap (λ ps. so_far.done ++ ps) left,
      subst (λ s. MayPass64BitsBy s (g.P.Parts.may parts).Words (g.P.Parts.may parts).Points
          c.split_paragraph.result.0.now) framed passes,
    )))

pub returns-clause-lines : goal.returns-clause-lines
returns-clause-lines g c =
    let parts = c.args.parts.now in
    let settings = layout_view c.args.layout in
    HasParagraphs-end settings (DividesWith (g.P.Parts.may parts) settings)
    g.S.LineSink.holds c.args.text.now c.args.lines.now c.loop-rest.lines c.loop-rest.start
    (rw c.in_default.is at c.loop-rest.invariant.lines)
