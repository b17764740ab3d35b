use Rattle.vectors_beside.proofs.uses.mail.sent_lines.Goals as goal
use Rattle.vectors_beside.proofs.Common.{AreTextLines-methods, settings_view, AreTextLines, subst}
use Rattle.vectors_beside.proofs.Common.{DividesUnder, line_view, map}
use Rattle.textwrap.specs.declared.LineEnding.TheVariants.{CRLF}

pub returns-clause-lines : goal.returns-clause-lines
returns-clause-lines g c =
    let lines = map line_view c.in_ok-lines.lines.items in
    subst (λ options. AreTextLines (record (settings_view options) { line_ending = CRLF })
    (DividesUnder options (record (settings_view options) { line_ending = CRLF })) c.args.mail.now
    lines) c.from.ensures
    (AreTextLines-methods c.from.result c.line_ending-options.result
    (record (settings_view c.from.result) { line_ending = CRLF }) c.args.mail.now lines
    c.line_ending-options.ensures.settings c.line_ending-options.ensures.methods
    c.in_ok-lines.ensures.lines.are)
