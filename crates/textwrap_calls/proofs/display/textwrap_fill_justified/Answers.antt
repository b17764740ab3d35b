use Rattle.textwrap_calls.proofs.display.textwrap_fill_justified.Goals as goal
use Rattle.textwrap_calls.proofs.RoomLemmas.{WritesText-answer}
use Rattle.textwrap_calls.proofs.{Common.string_bytes, ReadOptions.as-read}
use Rattle.textwrap_display.specs.JustifiedText.{IsJustifiedText}

pub returns-in-Ok-fill_justified-clause-filled : goal.returns-in-Ok-fill_justified-clause-filled
returns-in-Ok-fill_justified-clause-filled c =
    let text = c.in-Ok-from_utf8.text.now in
    let filled = as-read c.args.options.now c.in-Ok.options c.in-Ok.ensures.read
    (λ s Divides. IsJustifiedText s (Divides s) text (string_bytes c.in-Ok-fill_justified.filled))
    (rw (c.layout.ensures, c.parts.ensures.words, c.parts.ensures.splitter, c.parts.ensures.algorithm)
    at c.in-Ok-fill_justified.ensures.filled) in
    WritesText-answer (rw c.in-Ok-from_utf8.ensures.0 at filled)
    (rw c.as_bytes.ensures.value at c.put.ensures.text)
