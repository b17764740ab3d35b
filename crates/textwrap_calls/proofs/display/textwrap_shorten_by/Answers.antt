use Rattle.textwrap_calls.proofs.{Common.says_yes, Common.rules, RoomLemmas.WritesText-answer}
use Rattle.textwrap_calls.specs.Display.{IsShort}
use Rattle.textwrap_calls.proofs.display.textwrap_shorten_by.Goals as goal

pub returns-in-Ok-clause-short : goal.returns-in-Ok-clause-short
returns-in-Ok-clause-short c =
    let short : IsShort (says_yes c.args.break_words) c.args.width c.args.placeholder.now
    c.args.line.now c.as_bytes.result.now =
    search rules in WritesText-answer short c.put.ensures.text
