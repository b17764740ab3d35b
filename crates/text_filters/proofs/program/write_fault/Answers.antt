use Rattle.text_filters.proofs.program.write_fault.Goals as goal

pub returns-in-NotUtf8-clause-ok : goal.returns-in-NotUtf8-clause-ok
returns-in-NotUtf8-clause-ok g c =
    rw c.in-NotUtf8.is (rw c.format-number.ensures.text at c.write_message-in-NotUtf8.ensures.ok)

pub returns-in-NotUtf8-clause-prefix : goal.returns-in-NotUtf8-clause-prefix
returns-in-NotUtf8-clause-prefix g c =
    rw c.in-NotUtf8.is (rw c.format-number.ensures.text at c.write_message-in-NotUtf8.ensures.prefix)

pub returns-in-Memory-clause-prefix : goal.returns-in-Memory-clause-prefix
returns-in-Memory-clause-prefix g c =
    rw c.in-Memory.is c.write_message-in-Memory.ensures.prefix

pub returns-in-Write-clause-prefix : goal.returns-in-Write-clause-prefix
returns-in-Write-clause-prefix g c =
    rw c.in-Write.is (rw c.writing_text.ensures at c.write_message-in-Write.ensures.prefix)

pub returns-in-Output-clause-prefix : goal.returns-in-Output-clause-prefix
returns-in-Output-clause-prefix g c =
    rw c.in-Output.is (rw c.writing_text-in-Output.ensures at c.write_message-in-Output.ensures.prefix)

pub returns-in-Read-clause-prefix : goal.returns-in-Read-clause-prefix
returns-in-Read-clause-prefix g c =
    rw c.in-Read.is (rw c.reading_text.ensures at c.write_message.ensures.prefix)
