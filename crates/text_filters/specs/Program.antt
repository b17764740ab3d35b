-- What a program leaves behind, and how it ends.
use Rattle.clap.specs.declared.error.kind.ErrorKind.{ErrorKind}
use Rattle.clap.specs.declared.error.kind.ErrorKind.TheVariants.{DisplayHelp, DisplayVersion, OutOfMemory}
use Rattle.std.specs.Io.KnownBytes.{Appends, Keeps}
use Rattle.std.specs.Prelude.{◌≡◌, ◌⊎◌, ◌&&◌, ℕ, max, Bool, true, false, List, [], ◌∷◌, map, codes}
use Rattle.std.specs.Prelude.{Option, None, Some, Result, Ok, Err, bytes_eq, if◌then◌else◌, IfErr, ◌+◌}
use Rattle.std.specs.Prelude.{◌-◌, ◌^◌, length, min, nat_lt, not}
use Rattle.text_files.specs.Files.{Folder, bytes_at}
use Rattle.text_filters.specs.{Filter.Work, Inputs.Checks}
use Rattle.text_filters.specs.Inputs.{ChecksFile, Differs, DiffersFile, Prints, PrintsFile, Replaces}
use Rattle.text_filters.specs.Messages.{is_closed, is_quiet, joined_texts, message_line, says_nothing}
use Rattle.text_filters.specs.Messages.{AboutText, run_fault_texts, subject, sum_texts, texts_of}
use Rattle.text_filters.specs.Streams.{AnyReason, IsPossible, MayFail, StreamFaults}
use Rattle.text_filters.specs.declared.arguments.{Inputs.Inputs, Mode.Mode}
use Rattle.text_filters.specs.declared.arguments.Mode.TheVariants.{Print, Check, CheckDiff, Diff, InPlace}
use Rattle.text_filters.specs.declared.faults.{Fault.Fault, Fault.TheVariants.Output, Reason.Reason}
use Rattle.text_filters.specs.declared.{inputs.Treated.Treated, program.Ending.Ending}
use Rattle.textwrap_program.specs.Filling.{WritesPrefix}

-- what the reader has left, what stood at the names of files after each step so far, and what two
-- writers hold, where that is known
pub record World : Type 0 where
  pub unread : Option (List ℕ)
  pub files : List Folder
  pub output : Option (List ℕ)
  pub messages : Option (List ℕ)

-- nothing was read, replaced, written or said
abbrev pub SameWorld : World → World → Type 0
SameWorld old new =
    Keeps old.unread new.unread × (new.files ≡ old.files) × Keeps old.output new.output
    × Keeps old.messages new.messages

-- nothing was read, replaced or printed
abbrev pub OnlySays : World → World → Type 0
OnlySays old new =
    Keeps old.unread new.unread × (new.files ≡ old.files) × Keeps old.output new.output

-- ---- what is said, and how a run ends

module _ (messages : Reason → Type 0) where
  -- a text is said: it is written whole, or, where the messages may fail, a prefix of it is
  abbrev pub Says : List ℕ → Option (List ℕ) → Option (List ℕ) → Bool → Type 0
  Says text old new true = Appends old new text
  Says text old new false = WritesPrefix old new text × MayFail messages

  -- unless nothing is to be said
  abbrev pub SaysUnless : Bool → List ℕ → Option (List ℕ) → Option (List ℕ) → Bool → Type 0
  SaysUnless true text old new said = Keeps old new × (said ≡ true)
  SaysUnless false text old new said = Says text old new said

-- 0 if all went well, 1 if a check found that an input would change, 2 after a fault
abbrev pub status_of : Result Treated Fault → ℕ
status_of (Ok treated) = if treated.changes then 1 else 0
status_of (Err fault) = if is_quiet fault then 0 else 2

abbrev pub replaced_of : Result Treated Fault → ℕ
replaced_of (Ok treated) = if treated.replaced then 1 else 0
replaced_of (Err fault) = 0

-- how a run ends with an input of which this became
abbrev pub ReportsInput : (Reason → Type 0) → AboutText → List ℕ → Result Treated Fault → Option (List ℕ)
    → Option (List ℕ) → Ending → Type 0
ReportsInput messages about name result old new ending =
    SaysUnless messages (says_nothing result)
    (message_line about (subject name result) (texts_of about result)) old new ending.said
    × (ending.status ≡ status_of result) × (ending.replaced ≡ replaced_of result)

abbrev pub all_well : Ending
all_well = record { status = 0; said = true; replaced = 0 }

-- a run with a fault before its first input
abbrev pub IsFault : Ending → Type 0
IsFault ending = (ending.status ≡ 2) × (ending.replaced ≡ 0)

-- how a run ends that goes on: the status is the greater one
abbrev pub joined : Ending → Ending → Ending
joined first rest = record {
  status = max first.status rest.status;
  said = first.said && rest.said;
  replaced = min (first.replaced + rest.replaced) (2 ^ 64 - 1);
}

-- ---- inputs, by the work of a filter

abbrev pub standard_input : List ℕ
standard_input = codes "standard input"

-- what an input of this name is called in messages
abbrev pub shown_name : List ℕ → List ℕ
shown_name name = if bytes_eq name (codes "-") then standard_input else name

module _ (work : Work) where
  -- the standard input is printed also where files would be replaced
  abbrev pub TreatsInput : Mode → Option (List ℕ) → Option (List ℕ) → Option (List ℕ)
      → Option (List ℕ) → Result Treated Fault → Type 0
  TreatsInput Print unread left old new result = Prints work unread left old new result
  TreatsInput InPlace unread left old new result = Prints work unread left old new result
  TreatsInput Check unread left old new result =
      Checks work standard_input unread left old new result
  TreatsInput Diff unread left old new result =
      Differs work false (codes "-") unread left old new result
  TreatsInput CheckDiff unread left old new result =
      Differs work true (codes "-") unread left old new result

  -- a file is read from its known bytes; only `InPlace` changes it, and then nothing is printed
  abbrev pub TreatsFile : Mode → List ℕ → List Folder → List Folder
      → Option (List ℕ) → Option (List ℕ) → Result Treated Fault → Type 0
  TreatsFile Print name was is old new result =
      (is ≡ was) × PrintsFile work (bytes_at was name) old new result
  TreatsFile Check name was is old new result =
      (is ≡ was) × ChecksFile work name (bytes_at was name) old new result
  TreatsFile Diff name was is old new result =
      (is ≡ was) × DiffersFile work false name (bytes_at was name) old new result
  TreatsFile CheckDiff name was is old new result =
      (is ≡ was) × DiffersFile work true name (bytes_at was name) old new result
  TreatsFile InPlace name was is old new result =
      Replaces work name was is result × Keeps old new

  -- an input is the standard input, or a file
  abbrev pub Treats : Mode → Bool → List ℕ → Option (List ℕ) → Option (List ℕ)
      → List Folder → List Folder → Option (List ℕ) → Option (List ℕ) → Result Treated Fault → Type 0
  Treats mode true name unread left was is old new result =
      (is ≡ was) × TreatsInput mode unread left old new result
  Treats mode false name unread left was is old new result =
      Keeps unread left × TreatsFile mode name was is old new result

-- a file may fail for any reason, the standard input only for its own
abbrev pub input_faults : Bool → (Reason → Type 0) → Reason → Type 0
input_faults true reader = reader
input_faults false reader = AnyReason

-- the input of this name; `-` is the standard input
abbrev pub TreatsName : StreamFaults → Work → Mode → List ℕ → World → World → Result Treated Fault → Type 0
TreatsName faults work mode name old new result =
    Treats work mode (bytes_eq name (codes "-")) name old.unread new.unread old.files new.files
    old.output new.output result
    × IfErr result (IsPossible (input_faults (bytes_eq name (codes "-")) faults.reader) faults.output)

module _ (faults : StreamFaults) (about : AboutText) (work : Work) where
  -- the inputs are treated one after another, each with its message; where nobody reads the output any
  -- more, no further one is
  abbrev pub TreatsAll : Mode → List (List ℕ) → Bool → World → World → Ending → Type 0
  TreatsAll mode [] closed old new ending = SameWorld old new × (ending ≡ all_well)
  TreatsAll mode (name ∷ names) true old new ending = SameWorld old new × (ending ≡ all_well)
  TreatsAll mode (name ∷ names) false old new ending =
      (mid : World) × (result : Result Treated Fault) × (first : Ending) × (rest : Ending)
      × TreatsName faults work mode name old mid result
      × ReportsInput faults.messages about (shown_name name) result old.messages mid.messages first
      × TreatsAll mode names (is_closed result) mid new rest
      × (ending ≡ joined first rest)

-- ---- how many files were replaced

abbrev is_in_place : Mode → Bool
is_in_place InPlace = true
is_in_place _ = false

-- it is said where there are several names, unless that is not wanted
abbrev pub sums_up : Inputs → Bool
sums_up inputs = (is_in_place inputs.mode && nat_lt 1 (length inputs.names.now)) && not inputs.quiet

-- of a run so far over so many names, which may end so
abbrev pub SumsUp : (Reason → Type 0) → AboutText → Bool → ℕ → World → World → Ending → Ending → Type 0
SumsUp messages about false names mid new first ending = SameWorld mid new × (ending ≡ first)
SumsUp messages about true names mid new first ending =
    OnlySays mid new
    × ((said : Bool)
    × Says messages (joined_texts (sum_texts about first.replaced names)) mid.messages new.messages said
    × (ending ≡ record {
      status = first.status;
      said = first.said && said;
      replaced = first.replaced;
    }))

-- the inputs are treated, and then it is said how many files were replaced
abbrev pub Serves : StreamFaults → AboutText → Work → Inputs → World → World → Ending → Type 0
Serves faults about work inputs old new ending =
    (mid : World) × (first : Ending)
    × TreatsAll faults about work inputs.mode (map (λ name. name.now) inputs.names.now) false old mid first
    × SumsUp faults.messages about (sums_up inputs) (length inputs.names.now) mid new first ending

-- ---- where there is no request

abbrev pub standard_output : List ℕ
standard_output = codes "standard output"

-- a text goes to the output, or a prefix of it, of which it is said why as of an input
abbrev pub Shows : (Reason → Type 0) → (Reason → Type 0) → AboutText → List ℕ → Option (List ℕ)
    → Option (List ℕ) → Option (List ℕ) → Option (List ℕ) → Ending → Type 0
Shows output messages about text old new was is ending =
    (Appends old new text × Keeps was is × (ending ≡ all_well))
    ⊎ (WritesPrefix old new text
    × ((reason : Reason) × output reason
    × ReportsInput messages about standard_output (Err (Output reason)) was is ending))

module _ (messages : Reason → Type 0) where
  -- of a fault that came before the first input
  abbrev pub SaysFault : AboutText → List ℕ → Option (List ℕ) → Option (List ℕ) → Bool → Type 0
  SaysFault about fault = Says messages (joined_texts (run_fault_texts about fault))

  abbrev pub SaysMemory : AboutText → Option (List ℕ) → Option (List ℕ) → Bool → Type 0
  SaysMemory about = SaysFault about (codes "out of memory")

  -- the text that an error displays is said, and where this is not known, some text
  abbrev pub SaysShown : Option (List ℕ) → Option (List ℕ) → Option (List ℕ) → Bool → Type 0
  SaysShown None was is said = (text : List ℕ) × Says messages text was is said
  SaysShown (Some text) was is said = Says messages text was is said

  -- of a fault the text of its error is said, unless memory ran out for that text
  abbrev pub Warns : AboutText → Option (List ℕ) → Option (List ℕ) → Option (List ℕ) → Bool → Type 0
  Warns about shown was is said = SaysShown shown was is said ⊎ SaysMemory about was is said

-- what is written of an error of the command line, by its kind and the text that it displays: the
-- help and the version go to the output, and a fault to the messages
abbrev pub ExplainsParse : (Reason → Type 0) → (Reason → Type 0) → AboutText → ErrorKind
    → Option (List ℕ) → Option (List ℕ) → Option (List ℕ) → Option (List ℕ) → Option (List ℕ)
    → Ending → Type 0
ExplainsParse output messages about DisplayHelp shown old new was is ending =
    Shows output messages about about.help old new was is ending
ExplainsParse output messages about DisplayVersion shown old new was is ending =
    Shows output messages about about.version old new was is ending
ExplainsParse output messages about OutOfMemory shown old new was is ending =
    Keeps old new × SaysMemory messages about was is ending.said × IsFault ending
ExplainsParse output messages about _ shown old new was is ending =
    Keeps old new × Warns messages about shown was is ending.said × IsFault ending
