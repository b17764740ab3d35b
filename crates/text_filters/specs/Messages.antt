-- What a program says of an input.
use Rattle.clap.specs.Words.{Row, first_of}
use Rattle.std.specs.List.{flat_map}
use Rattle.std.specs.Prelude.{ℕ, Bool, true, false, List, [], ◌∷◌, ◌++◌, codes, decimal, Result, Ok}
use Rattle.std.specs.Prelude.{Err, unwrap_or}
use Rattle.text_filters.specs.declared.faults.Fault.{Fault}
use Rattle.text_filters.specs.declared.faults.Fault.TheVariants.{Read, NotUtf8, Memory, Write, Output}
use Rattle.text_filters.specs.declared.faults.Reason.{Reason}
use Rattle.text_filters.specs.declared.faults.Reason.TheVariants.{NotFound, NotPermitted, IsFolder}
use Rattle.text_filters.specs.declared.faults.Reason.TheVariants.{ReadOnly, IsPipe, IsDevice, TooLong}
use Rattle.text_filters.specs.declared.faults.Reason.TheVariants.{Busy, Changed, TooManyDrafts, NoSpace}
use Rattle.text_filters.specs.declared.{faults.Reason.TheVariants.Closed, inputs.Treated.Treated}
use Rattle.text_filters.specs.declared.program.About.{About}
use Rattle.textwrap_program.specs.Program.{line_feed}

abbrev pub joined_texts : List (List ℕ) → List ℕ
joined_texts = flat_map (λ text. text)

-- what a program is called, and what it says of itself
pub record AboutText : Type 0 where
  pub name : List ℕ
  pub help : List ℕ
  pub version : List ℕ
  -- of an input in which there is nothing for its filter
  pub idle : List ℕ

abbrev pub about_view : About → AboutText
about_view about = record {
  name = about.name.now;
  help = about.help.now;
  version = about.version.now;
  idle = about.idle.now;
}

-- the line of these texts on the input of a name
abbrev pub message_line : AboutText → List ℕ → List (List ℕ) → List ℕ
message_line about name texts =
    joined_texts (about.name ∷ codes ": " ∷ name ∷ codes ": " ∷ [])
    ++ (joined_texts texts ++ line_feed ∷ [])

-- nothing is said where nobody reads the output any more
abbrev pub is_quiet : Fault → Bool
is_quiet (Output Closed) = true
is_quiet _ = false

abbrev pub reading_text : Reason → List ℕ
reading_text NotFound = codes "not found"
reading_text NotPermitted = codes "may not be read"
reading_text IsFolder = codes "is a folder"
reading_text IsPipe = codes "is a pipe or a socket"
reading_text IsDevice = codes "is a device"
reading_text TooLong = codes "its name is too long"
reading_text Busy = codes "is in use"
reading_text _ = codes "cannot read"

abbrev pub writing_text : Reason → List ℕ
writing_text NotFound = codes "not found"
writing_text NotPermitted = codes "may not be written"
writing_text ReadOnly = codes "stands on a file system that may only be read"
writing_text IsFolder = codes "is a folder"
writing_text TooLong = codes "its name is too long"
writing_text Busy = codes "is in use"
writing_text Changed = codes "has changed while it was read"
writing_text TooManyDrafts = codes "100 drafts are there already"
writing_text NoSpace = codes "no space is left"
writing_text _ = codes "cannot write"

abbrev pub fault_texts : Fault → List (List ℕ)
fault_texts (Read reason) = reading_text reason ∷ []
fault_texts (NotUtf8 valid) = codes "not UTF-8 after " ∷ decimal valid ∷ codes " bytes" ∷ []
fault_texts Memory = codes "out of memory" ∷ []
fault_texts (Write reason) = writing_text reason ∷ []
fault_texts (Output reason) = writing_text reason ∷ []

-- what something is said of: the input of this name, or the output, where that cannot be written
abbrev pub subject : List ℕ → Result Treated Fault → List ℕ
subject name (Err (Output reason)) = codes "standard output"
subject name _ = name

-- what is said of an input, and whether it is nothing: of one without a fault that there was nothing in it
-- for the filter, if so it was
abbrev pub texts_of : AboutText → Result Treated Fault → List (List ℕ)
texts_of about (Ok treated) = about.idle ∷ []
texts_of about (Err fault) = fault_texts fault

abbrev pub says_nothing : Result Treated Fault → Bool
says_nothing (Ok treated) = treated.applies
says_nothing (Err fault) = is_quiet fault

-- nobody reads the output any more
abbrev pub is_closed : Result Treated Fault → Bool
is_closed (Ok treated) = false
is_closed (Err fault) = is_quiet fault

-- ---- what is said before the first input

-- that the value of an option is not what is wanted
abbrev pub value_texts : AboutText → List Row → List ℕ → List ℕ → List (List ℕ)
value_texts about rows option wanted =
    about.name ∷ codes ": --" ∷ option ∷ codes ": '" ∷ unwrap_or (first_of option rows) []
    ∷ codes "' is not " ∷ wanted ∷ (line_feed ∷ []) ∷ []

abbrev pub run_fault_texts : AboutText → List ℕ → List (List ℕ)
run_fault_texts about fault = about.name ∷ codes ": " ∷ fault ∷ (line_feed ∷ []) ∷ []

-- ---- what is said after the last one

-- how many files were replaced, of so many names
abbrev pub sum_texts : AboutText → ℕ → ℕ → List (List ℕ)
sum_texts about replaced names =
    about.name ∷ codes ": " ∷ decimal replaced ∷ codes " of " ∷ decimal names
    ∷ codes " files changed" ∷ (line_feed ∷ []) ∷ []
