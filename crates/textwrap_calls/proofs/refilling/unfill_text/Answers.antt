use Rattle.textwrap_calls.proofs.refilling.unfill_text.Goals as goal
use Rattle.textwrap_calls.proofs.refilling.unfill_text.Goals.{After-report-status}
use Rattle.textwrap_calls.proofs.{Lengths.Texts.unfilled-length, RoomLemmas.written-exactly}
use Rattle.textwrap_calls.{proofs.Common.{arith, rules, unfilled_parts, ◌≡◌}, specs.Room.WritesText}

-- whether the layout is written too or not
written : (c : After-report-status) → WritesText (λ answer. answer ≡ unfilled_parts c.args.text.now)
    c.report-status.result c.args.room.now c.unfill_into-answer.new.room c.args.len.now
    c.report-status.new.len
written c =
    let short = unfilled-length c.args.text.now in
    written-exactly (unfilled_parts c.args.text.now) (omega (arith, short))
    c.unfill_into-answer.ensures.len c.unfill_into-answer.ensures.room (search rules)
    c.report-status.ensures.len c.report-status.ensures.small c.report-status.ensures.statuses

pub returns-then-status-eq-DONE-clause-unfilled : goal.returns-then-status-eq-DONE-clause-unfilled
returns-then-status-eq-DONE-clause-unfilled c =
    written (goal.at.returns-then-status-eq-DONE-clause-unfilled c).After-report-status

pub returns-else-status-eq-DONE-clause-unfilled : goal.returns-else-status-eq-DONE-clause-unfilled
returns-else-status-eq-DONE-clause-unfilled c =
    written (goal.at.returns-else-status-eq-DONE-clause-unfilled c).After-report-status
