use Rattle.textwrap.proofs.refilling.fill_joined.Goals as goal
use Rattle.textwrap.proofs.Common.{added_ending, string_bytes, append-nil, ◌++◌, sym}
use Rattle.textwrap.proofs.Common.{◌∙◌, ap}

pub returns-clause-filled : goal.returns-clause-filled
returns-clause-filled g c =
    let filled = string_bytes c.in_ok-filled.filled in
    let ending = c.args.layout.line_ending in (
      filled,
      c.in_ok-filled.ensures.filled,
      elim c.if-keeps_ending.branch [
        | goal.then-keeps_ending+in_ok-push_str w ↦ ap string_bytes w.filled-is
            ∙ w.in_ok-push_str.ensures.bytes ∙ ap (λ b. filled ++ b) (w.as_str.ensures
            ∙ sym (ap (λ k. added_ending k ending) w.if-keeps_ending.true))
        | goal.else-keeps_ending w ↦ ap string_bytes w.filled-is
            ∙ sym (ap (λ k. filled ++ added_ending k ending) w.if-keeps_ending.false
            ∙ append-nil filled)
      ],
    )
