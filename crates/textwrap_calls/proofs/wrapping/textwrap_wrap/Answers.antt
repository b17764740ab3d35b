use Rattle.textwrap_calls.proofs.wrapping.textwrap_wrap.Goals as goal
use Rattle.textwrap_calls.proofs.RoomLemmas.{WritesLines-reported}
use Rattle.textwrap_calls.proofs.{Common.refl, PrintableLines.only-line-shown}

pub returns-in-Some-clause-wrapped : goal.returns-in-Some-clause-wrapped
returns-in-Some-clause-wrapped c =
    WritesLines-reported _ c.in-Some.ensures.line refl
    (only-line-shown c.args.options.now c.args.text.now c.in-Some.line.now c.in-Some.ensures.utf8
    c.in-Some.ensures.line) c.put_line.ensures.statuses c.put_line.ensures.lines
