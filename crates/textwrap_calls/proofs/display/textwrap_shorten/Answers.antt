use Rattle.textwrap_calls.proofs.display.textwrap_shorten.Goals as goal
use Rattle.textwrap_calls.proofs.{Common.false, Common.rules, RoomLemmas.WritesText-answer}
use Rattle.textwrap_calls.specs.Display.{IsShort}

pub returns-in-Ok-clause-short : goal.returns-in-Ok-clause-short
returns-in-Ok-clause-short c =
    let short : IsShort false c.args.width c.args.placeholder.now c.args.line.now c.as_bytes.result.now =
    search rules in WritesText-answer short c.put.ensures.text
