use Rattle.textwrap_lines.proofs.wrapping.split_paragraph.Goals as goal
use Rattle.textwrap_lines.proofs.Common.{ap, arith, drop, ending_bytes, length, sym, ◌++◌, ◌∙◌, ◌≡◌}
use Rattle.textwrap_lines.proofs.Common.{◌≤◌}
use Rattle.textwrap_layout.proofs.Text.Paragraphs.{parts_past-first, parts_past-no_feed}
use Rattle.textwrap_layout.proofs.Text.Paragraphs.{parts_past-feed, parts_past-none}
use Rattle.textwrap_text.specs.declared.line_ending.LineEnding.TheVariants.{CRLF}

pub returns-in-Some-clause-paragraphs : goal.returns-in-Some-clause-paragraphs
returns-in-Some-clause-paragraphs c =
    let found = c.in-Some.ensures.byte (omega arith) (λ w o found. found) in
    rw c.in-LF.is (rw (sym found.0, sym found.1) at (parts_past-feed c.args.text.now found.2))

pub returns-in-None-clause-paragraphs : goal.returns-in-None-clause-paragraphs
returns-in-None-clause-paragraphs c = rw c.in-LF.is (parts_past-no_feed c.args.text.now
    (c.in-None.ensures.byte (omega arith) (λ w o found. found)))

pub returns-in-Some-split_once-clause-paragraphs : goal.returns-in-Some-split_once-clause-paragraphs
returns-in-Some-split_once-clause-paragraphs c =
    let found = c.in-Some-split_once.ensures.cases in
    let ending = ending_bytes CRLF in
    let text = c.args.text.now in
    let after = c.in-Some-split_once.after.now in
    let here : drop found.0 text ≡ ending ++ after = found.2.1.split
    ∙ ap (λ l. ending ++ l) (sym found.4) in
    let within : found.0 ≤ length text = omega (arith, found.5, found.7) in
    rw (c.in-CRLF.is, found.3)
    (parts_past-first ending text after found.0 (omega arith) found.2.0 within here)

pub returns-in-None-split_once-clause-paragraphs : goal.returns-in-None-split_once-clause-paragraphs
returns-in-None-split_once-clause-paragraphs c = rw c.in-CRLF.is
    (parts_past-none (ending_bytes CRLF) c.args.text.now c.in-None-split_once.ensures.cases)
