use Rattle.textwrap_calls.proofs.refilling.refill_text.Goals as goal
use Rattle.textwrap_calls.proofs.Common.{IsRefilled, string_bytes}
use Rattle.textwrap_calls.proofs.{ReadOptions.as-read, RoomLemmas.WritesText-answer}

pub returns-in-Ok-refill_by-clause-refilled : goal.returns-in-Ok-refill_by-clause-refilled
returns-in-Ok-refill_by-clause-refilled c =
    let refilled = as-read c.args.options.now c.in-Ok.options c.in-Ok.ensures.read
    (λ s Divides. IsRefilled s Divides c.args.text.now (string_bytes c.in-Ok-refill_by.refilled))
    (rw (c.layout.ensures, c.parts.ensures.words, c.parts.ensures.splitter, c.parts.ensures.algorithm)
    at c.in-Ok-refill_by.ensures.refilled) in
    WritesText-answer refilled (rw c.as_bytes.ensures.value at c.put.ensures.text)
