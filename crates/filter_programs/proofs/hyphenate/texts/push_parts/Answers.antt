use Rattle.filter_programs.proofs.hyphenate.texts.push_parts.Goals as goal
use Rattle.filter_programs.proofs.Joined.{joined-more}
use Rattle.std.{proofs.Common.lit<, specs.Prelude.string_bytes}
use Rattle.textwrap_text.proofs.Common.{ap, drop, drop_more, get_or, slice_range, ◌++◌, ◌+◌, ◌∙◌}

pub loop-point-preserved : goal.loop-point-preserved
loop-point-preserved c =
    let word = c.args.word.now in
    let points = c.args.points.now in
    let i = c.loop-point.point-index in
    let more = drop_more points i 0 c.loop-point-test.true in
    let next = rw more at c.loop-point.invariant.left in
    let made = string_bytes c.loop-point.made in
    record {
      made = joined-more made (string_bytes c.push_str.new.self) (string_bytes c.push.new.self)
          (slice_range word c.loop-point.start (get_or points i 0)) (get_or points i 0)
          (drop (i + 1) points) word _
          (c.in_ok-push_str.ensures.bytes ∙ ap (λ part. made ++ part) c.range.ensures.value)
          (c.in_ok-push.ensures.bytes
          ∙ ap (λ bytes. string_bytes c.push_str.new.self ++ bytes) (c.in_ok-push.ensures.ascii (lit< tt)))
          (rw more at c.loop-point.invariant.made);
      boundary = λ _. next.0.2;
      left = next.1;
    }
