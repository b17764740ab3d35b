use Rattle.textwrap_calls.proofs.reflowing.textwrap_reflow.Goals as goal
use Rattle.textwrap_calls.proofs.{Common.rules, RoomLemmas.WritesText-answer}
use Rattle.textwrap_calls.specs.Reflowing.{IsReflowedBy}

pub returns-in-Ok-reflowed-clause-reflowed : goal.returns-in-Ok-reflowed-clause-reflowed
returns-in-Ok-reflowed-clause-reflowed c =
    let is : IsReflowedBy c.args.options.now c.args.text.now c.as_bytes.result.now = search rules in
    WritesText-answer is c.put.ensures.text
