use Rattle.textwrap_styles.proofs.styles.carry_styles.Goals as goal
use Rattle.textwrap_styles.proofs.{CarriedLines.{carries-more}, Common.{closing, sequences}}
use Rattle.textwrap_layout.specs.Paragraph.{line_view}
use Rattle.textwrap_styles.specs.Styles.{carried_line, opening}
use Rattle.textwrap_text.proofs.Common.{◌++◌, ap, drop, rules, ◌∙◌, ◌≡◌}

pub loop-line-preserved : goal.loop-line-preserved
loop-line-preserved g c =
    let so_far = c.loop-line.invariant.carries in
    let before = so_far.0 in
    let line = c.as_str-line.result.now in
    let indent = c.loop-line.indent.now in
    let end = c.indent_end-indent_end in
    let text = c.range_from.result.now in
    let state = c.in_ok-read.ensures before so_far.1 in
    let starts : c.deref.result.now ≡ opening before =
    c.deref.ensures ∙ c.in_ok-push_opening.ensures before so_far.1
    ∙ ap (λ l. l ++ opening before) c.clear.ensures.bytes in
    let ends : c.closing.result.now ≡ closing (before ++ sequences (drop end.result line)) =
    c.closing.ensures (before ++ sequences text) state
    ∙ ap (λ t. closing (before ++ sequences t)) c.range_from.ensures.value in
    let view : line_view c.in_ok-enclosed.field-0 ≡ carried_line indent before line =
    cc (end.ensures.len, starts, ends, c.in_ok-enclosed.ensures) in
    let carries = carries-more c.args.lines.now c.loop-line.line-index
    c.line-item.result c.in_ok-enclosed.field-0 indent c.args.options.now.subsequent_indent.now
    line text before c.loop-line.carried.items c.push.new.self.items _ c.loop-line-test.true
    c.line-item.is c.as_str-line.ensures.value (rw end.ensures.len at c.range_from.ensures.value)
    c.in_ok-push.ensures.items view so_far.2 in
    record { carries = (before ++ sequences text, state, carries); utf8 = search rules }
