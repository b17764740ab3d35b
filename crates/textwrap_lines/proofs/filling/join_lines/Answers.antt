use Rattle.textwrap_lines.proofs.Common.{ending_bytes, string_bytes, line_bytes, join_with, arith}
use Rattle.textwrap_lines.proofs.Common.{line_view, take, ◌++◌, map, sym, ◌∙◌, ◌≡◌, ap}
use Rattle.textwrap_lines.proofs.filling.join_lines.Goals as goal
use Rattle.textwrap_layout.proofs.Text.Lines.{join-take_first, join-take_more}

pub loop-i-preserved : goal.loop-i-preserved
loop-i-preserved g c =
    let separator = ending_bytes c.args.line_ending in
    elim c.if-i-gt0.branch [
      | goal.then-i-gt0+in_ok-push_str w ↦
          rw (
            c.in_ok-push_str-2.ensures.bytes,
            w.joined-is,
            w.in_ok-push_str.ensures.bytes,
            c.loop-i.invariant,
            w.as_str.ensures,
            c.as_str-in-loop-i.ensures.value,
          ) (sym (join-take_more separator c.args.lines.now c.loop-i.i c.index-lines-i.result
          c.loop-i-test.true c.index-lines-i.is w.if-i-gt0.true))
      | goal.else-i-gt0 w ↦
          let first : c.loop-i.i ≡ 0 = omega arith in
          c.in_ok-push_str-2.ensures.bytes ∙ ap (λ l. l ++ c.as_str-in-loop-i.result.now)
          (ap string_bytes w.joined-is ∙ c.loop-i.invariant ∙ ap (λ n. join_with separator
          (map line_bytes (map line_view (take n c.args.lines.now)))) first)
          ∙ c.as_str-in-loop-i.ensures.value
          ∙ sym (join-take_first separator c.args.lines.now c.loop-i.i c.index-lines-i.result
          c.loop-i-test.true c.index-lines-i.is first)
    ]
