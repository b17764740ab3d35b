use Rattle.textwrap.proofs.refilling.unfill_into.Goals as goal
use Rattle.textwrap.proofs.Common.{rules, List, ◌++◌, ◌∙◌, ◌≡◌, [], ap, ℕ}
use Rattle.textwrap.specs.Refilling.{unfilled_parts, unfilled_text}
use Rattle.textwrap_text.specs.LentText.{written_over, IsLent}
use Rattle.textwrap.proofs.refilling.unfill_into.Goals.{After-with_layout}

-- no text leaves the room as it was
over-none : (before : List ℕ) → written_over before [] ≡ before
over-none before = search rules

pushed : (g : _) (c : After-with_layout g)
    → IsLent c.push-in-Ok.new.self (unfilled_parts c.args.text.now) c.args.room.now
pushed g c =
    let text = c.args.text.now in
    let same = c.in-Ok.ensures.layout in
    rw (
      c.new-parts.ensures.empty.room ∙ over-none c.args.room.now,
      c.as_bytes.ensures.value ∙ ap (λ s. s.initial_indent) same,
      c.as_bytes-in-Ok.ensures.value ∙ ap (λ s. s.subsequent_indent) same,
    ) at (c.push-in-Ok.ensures.text (unfilled_text text ++ c.as_bytes.result.now) _
    (c.push.ensures.text (unfilled_text text) _ c.in-Ok.ensures.unfilled.lent))

pub returns-clause-len : goal.returns-clause-len
returns-clause-len g c = c.len.ensures ∙ (pushed g c).len

pub returns-clause-room : goal.returns-clause-room
returns-clause-room g c = search (rules, (pushed g c).room)
