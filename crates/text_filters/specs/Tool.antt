-- The whole run of a program.
use Rattle.clap.specs.Words.{App, HasKind, Row, Text, fault_of, kind_of, matches_of}
use Rattle.clap.specs.declared.error.Error.{Error}
use Rattle.std.specs.Io.KnownBytes.{Keeps}
use Rattle.std.specs.Prelude.{◌≡◌, ◌⊎◌, List, [], None}
use Rattle.text_filters.specs.Messages.{AboutText}
use Rattle.text_filters.specs.Program.{ExplainsParse, IsFault, OnlySays, SaysMemory, World}
use Rattle.text_filters.specs.{Streams.StreamFaults, declared.program.Ending.Ending}

-- what a program says of itself, its command line, how words are written for that, and what it does with
-- what they match there
pub record ToolText : Type 1 where
  pub about : AboutText
  pub app : App
  pub spelled : List Text → List Text
  pub Serves : StreamFaults → List Row → World → World → Ending → Type 0

-- these words have matches on the command line, or there is an error, and nothing is read or replaced;
-- what an error displays, `clap` does not promise
abbrev pub ServesWords : StreamFaults → ToolText → List Text → World → World → Ending → Type 0
ServesWords faults tool words old new ending =
    ((fault_of tool.app words ≡ []) × tool.Serves faults (matches_of tool.app words) old new ending)
    ⊎ ((error : Error) × HasKind (fault_of tool.app words) error
    × Keeps old.unread new.unread × (new.files ≡ old.files)
    × ExplainsParse faults.output faults.messages tool.about (kind_of error) None old.output
    new.output old.messages new.messages ending)

-- the words do so as they are written for the command line, or memory runs out for that
abbrev pub ExecutesTool : StreamFaults → ToolText → List Text → World → World → Ending → Type 0
ExecutesTool faults tool words old new ending =
    ServesWords faults tool (tool.spelled words) old new ending
    ⊎ (OnlySays old new × SaysMemory faults.messages tool.about old.messages new.messages ending.said
    × IsFault ending)
