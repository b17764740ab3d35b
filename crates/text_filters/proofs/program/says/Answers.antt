use Rattle.text_filters.proofs.MessageLemmas.{says-result}
use Rattle.text_filters.proofs.program.says.Goals as goal

pub returns-in-Ok : goal.returns-in-Ok
returns-in-Ok g c =
    rw c.in-Ok.is (says-result g.M.WriteWhole.faults _ _ _ c.write_message.result c.is_ok.result c.is_ok.ensures.value
    c.write_message.ensures.ok c.write_message.ensures.prefix c.write_message.ensures.failed)

pub returns-in-Err : goal.returns-in-Err
returns-in-Err g c =
    rw c.in-Err.is (rw c.subject.ensures at
    (says-result g.M.WriteWhole.faults _ _ _ c.write_fault.result c.is_ok-in-Err.result
    c.is_ok-in-Err.ensures.value c.write_fault.ensures.ok c.write_fault.ensures.prefix c.write_fault.ensures.failed))
