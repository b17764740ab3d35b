-- Laws of what a run leaves behind.
use Rattle.std.specs.Io.KnownBytes.{Appends, Keeps}
use Rattle.std.specs.Prelude.{◌≡◌, ◌⊎◌, ⊤, ℕ, Bool, true, false, List, [], ◌∷◌, Option, codes}
use Rattle.text_filters.specs.{Filter.Work, Inputs.ReadsNoText, Inputs.ReadsText}
use Rattle.text_filters.specs.Messages.{AboutText, fault_texts, message_line}
use Rattle.text_filters.specs.Program.{TreatsAll, World, standard_input}
use Rattle.text_filters.specs.Streams.{NoReason, StreamFaults, faults_of}
use Rattle.text_filters.specs.declared.{arguments.Mode.TheVariants.Print, faults.Fault.Fault}
use Rattle.text_filters.specs.declared.faults.Fault.TheVariants.{Memory, NotUtf8}
use Rattle.text_filters.specs.declared.program.Ending.{Ending}

-- streams that do not fail
abbrev pub sound : StreamFaults
sound = faults_of NoReason NoReason NoReason

-- it is said of a text that there was nothing in it for the filter, if so it was
abbrev pub SaysIfIdle : AboutText → Bool → Option (List ℕ) → Option (List ℕ) → Type 0
SaysIfIdle about true old new = Keeps old new
SaysIfIdle about false old new =
    Appends old new (message_line about standard_input (about.idle ∷ []))

-- what the text becomes is printed
abbrev pub PrintsText : AboutText → Work → World → World → Ending → Type 0
PrintsText about work old new ending =
    (left : Option (List ℕ)) × (input : List ℕ) × (output : List ℕ)
    × ReadsText work old.unread left input output × Appends old.output new.output output
    × SaysIfIdle about (work.applies input) old.messages new.messages
    × (ending.status ≡ 0)

-- the faults that no stream has: memory ran out, or what was read is no text
abbrev pub IsOwnFault : Option (List ℕ) → Fault → Type 0
IsOwnFault unread Memory = ⊤
IsOwnFault unread (NotUtf8 valid) = (left : Option (List ℕ)) × ReadsNoText unread left valid
IsOwnFault unread _ = ⊥

-- nothing is printed, and it is said why
abbrev pub PrintsNothing : AboutText → World → World → Ending → Type 0
PrintsNothing about old new ending =
    (fault : Fault) × IsOwnFault old.unread fault × Keeps old.output new.output
    × Appends old.messages new.messages (message_line about standard_input (fault_texts fault))
    × (ending.status ≡ 2)

-- over streams that do not fail, what the standard input becomes is printed, or it is said why not
abbrev pub SoundStreamsAreServed : Work → Type 0
SoundStreamsAreServed work =
    (about : AboutText) (old new : World) (ending : Ending)
    → TreatsAll sound about work Print (codes "-" ∷ []) false old new ending
    → (PrintsText about work old new ending ⊎ PrintsNothing about old new ending)
    × (ending.said ≡ true)
