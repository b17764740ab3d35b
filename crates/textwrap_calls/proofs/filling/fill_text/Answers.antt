use Rattle.textwrap_calls.proofs.filling.fill_text.Goals as goal
use Rattle.textwrap_calls.proofs.Common.{arith, IsFilled, length, rules, too_small, ◌<◌, ◌↔◌, ◌∙◌}
use Rattle.textwrap_calls.proofs.{Common.◌≡◌, ReadOptions.as-read, RoomLemmas.short-reported}

pub returns-in-Ok-fill_into-clause-filled : goal.returns-in-Ok-fill_into-clause-filled
returns-in-Ok-fill_into-clause-filled c =
    let (filled, are, len, room) = c.in-Ok-fill_into.ensures.filled in
    let is = as-read c.args.options.now c.in-Ok.options c.in-Ok.ensures.read
    (λ s Divides. IsFilled s (Divides s) c.args.text.now filled) are in
    let same : length c.fill_into.new.room ≡ length c.args.room.now = search rules in
    let passed = short-reported (length c.args.room.now) (length filled) (omega arith) in
    let small : c.report.result ≡ too_small ↔ length c.args.room.now < length filled = (
      λ short. passed.0 (rw (same, len) at (c.report.ensures.small.0 short)),
      λ passes. c.report.ensures.small.1 (rw (same, len) (passed.1 passes)),
    ) in
    record {
      written = λ answered. (filled, is, c.report.ensures.len ∙ len, room, small);
      kept = λ other short. search rules;
      kept_len = λ other short. search rules;
    }
