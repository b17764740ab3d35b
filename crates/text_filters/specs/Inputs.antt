-- What becomes of one input by the work of a filter.
use Rattle.std.specs.Io.KnownBytes.{Appends, Keeps}
use Rattle.std.specs.Prelude.{◌≡◌, ◌≢◌, ◌&&◌, ℕ, Bool, true, false, List, Option, Result, Ok, Err, []}
use Rattle.std.specs.Prelude.{◌∷◌, ◌++◌, ◌⊎◌, ⊤, string_bytes}
use Rattle.std.specs.Str.{IsUtf8, Lossy.utf8_valid_len}
use Rattle.text_files.specs.Files.{Folder, KeepsFiles, ReplacesFile, bytes_at}
use Rattle.text_filters.specs.{Filter.Work, declared.faults.Fault.Fault}
use Rattle.text_filters.specs.declared.faults.Fault.TheVariants.{Read, NotUtf8, Memory, Output, Write}
use Rattle.text_filters.specs.declared.{filter.Made.Made, inputs.Filtered.Filtered}
use Rattle.text_filters.specs.declared.inputs.Treated.{Treated}
use Rattle.textwrap_program.specs.Filling.{ReadsAll, WritesPrefix}
use Rattle.textwrap_program.specs.Program.{TriesLine, line_feed}
use Rattle.text_files.specs.Differences.{IsDiffText}

-- this is no text, and so many bytes before the first that is none are one
abbrev pub IsNoText : List ℕ → ℕ → Type 0
IsNoText input valid = (¬ IsUtf8 input) × (valid ≡ utf8_valid_len input)

-- an input that is no text was read whole
abbrev pub ReadsNoText : Option (List ℕ) → Option (List ℕ) → ℕ → Type 0
ReadsNoText unread left valid = (input : List ℕ) × ReadsAll unread left input × IsNoText input valid

-- what a check writes: the name exactly if the output is another text
abbrev pub Tells : List ℕ → Option (List ℕ) → Option (List ℕ) → List ℕ → List ℕ → Bool → Type 0
Tells name old new input output false = (output ≡ input) × Keeps old new
Tells name old new input output true = (output ≢ input) × Appends old new (name ++ line_feed ∷ [])

-- what a diff writes: the text of one exactly if the output is another text
abbrev pub TellsDiff : List ℕ → Option (List ℕ) → Option (List ℕ) → List ℕ → List ℕ → Bool → Type 0
TellsDiff name old new input output false = (output ≡ input) × Keeps old new
TellsDiff name old new input output true =
    (output ≢ input)
    × ((text : List ℕ) × IsDiffText name input output text × Appends old new text)

module _ (work : Work) where
  -- what a text becomes, or a fault: `NotUtf8` exactly if it is none
  abbrev pub Filters : List ℕ → Result Made Fault → Type 0
  Filters input (Ok made) =
      IsUtf8 input × work.Makes input (string_bytes made.text)
      × (made.applies ≡ work.applies input)
  Filters input (Err (NotUtf8 valid)) = IsNoText input valid
  Filters input (Err Memory) = ⊤
  Filters input (Err _) = ⊥

  -- the input was read whole, is a text, and may become this output
  abbrev pub ReadsText : Option (List ℕ) → Option (List ℕ) → List ℕ → List ℕ → Type 0
  ReadsText unread left input output =
      ReadsAll unread left input × IsUtf8 input × work.Makes input output

  -- what is read, or a fault: never `Write` or `Output`, and `NotUtf8` exactly if the input is no text
  abbrev pub Reads : Option (List ℕ) → Option (List ℕ) → Result Filtered Fault → Type 0
  Reads unread left (Ok r) =
      ReadsText unread left r.input.items (string_bytes r.output.text)
      × (r.output.applies ≡ work.applies r.input.items)
  Reads unread left (Err (NotUtf8 valid)) = ReadsNoText unread left valid
  Reads unread left (Err (Write reason)) = ⊥
  Reads unread left (Err (Output reason)) = ⊥
  Reads unread left (Err _) = ⊤

  -- an input is printed: the whole output is written, at the fault `Output` a prefix of it, and at
  -- another nothing; there is no fault `Write`, and it never counts as one that would change
  abbrev pub Prints : Option (List ℕ) → Option (List ℕ) → Option (List ℕ) → Option (List ℕ)
      → Result Treated Fault → Type 0
  Prints unread left old new (Ok treated) =
      (input : List ℕ) × (output : List ℕ) × ReadsText unread left input output
      × Appends old new output × (treated.changes ≡ false)
      × (treated.applies ≡ work.applies input) × (treated.replaced ≡ false)
  Prints unread left old new (Err (NotUtf8 valid)) = ReadsNoText unread left valid × Keeps old new
  Prints unread left old new (Err (Output reason)) =
      (input : List ℕ) × (output : List ℕ) × ReadsText unread left input output
      × WritesPrefix old new output
  Prints unread left old new (Err (Write reason)) = ⊥
  Prints unread left old new (Err _) = Keeps old new

  -- so is a file, of which nothing is read if it cannot be opened
  abbrev pub PrintsFile : Option (List ℕ) → Option (List ℕ) → Option (List ℕ)
      → Result Treated Fault → Type 0
  PrintsFile unread old new result = (left : Option (List ℕ)) × Prints unread left old new result

  -- a check of an input of this name: the name is written exactly if the output is another text
  abbrev pub Checks : List ℕ → Option (List ℕ) → Option (List ℕ)
      → Option (List ℕ) → Option (List ℕ) → Result Treated Fault → Type 0
  Checks name unread left old new (Ok treated) =
      (input : List ℕ) × (output : List ℕ) × ReadsText unread left input output
      × Tells name old new input output treated.changes
      × (treated.applies ≡ work.applies input) × (treated.replaced ≡ false)
  Checks name unread left old new (Err (NotUtf8 valid)) =
      ReadsNoText unread left valid × Keeps old new
  Checks name unread left old new (Err (Output reason)) =
      (input : List ℕ) × (output : List ℕ) × ReadsText unread left input output
      × (output ≢ input) × TriesLine old new name
  Checks name unread left old new (Err (Write reason)) = ⊥
  Checks name unread left old new (Err _) = Keeps old new

  abbrev pub ChecksFile : List ℕ → Option (List ℕ) → Option (List ℕ) → Option (List ℕ)
      → Result Treated Fault → Type 0
  ChecksFile name unread old new result =
      (left : Option (List ℕ)) × Checks name unread left old new result

  -- a diff of an input of this name: it is written exactly if the output is another text, which counts
  -- as a change if that is asked for
  abbrev pub Differs : Bool → List ℕ → Option (List ℕ) → Option (List ℕ)
      → Option (List ℕ) → Option (List ℕ) → Result Treated Fault → Type 0
  Differs counts name unread left old new (Ok treated) =
      (input : List ℕ) × (output : List ℕ) × (differs : Bool)
      × ReadsText unread left input output × TellsDiff name old new input output differs
      × (treated.changes ≡ (counts && differs))
      × (treated.applies ≡ work.applies input) × (treated.replaced ≡ false)
  Differs counts name unread left old new (Err (NotUtf8 valid)) =
      ReadsNoText unread left valid × Keeps old new
  Differs counts name unread left old new (Err (Output reason)) =
      (input : List ℕ) × (output : List ℕ) × (text : List ℕ)
      × ReadsText unread left input output × (output ≢ input)
      × IsDiffText name input output text × WritesPrefix old new text
  Differs counts name unread left old new (Err (Write reason)) = ⊥
  Differs counts name unread left old new (Err _) = Keeps old new

  abbrev pub DiffersFile : Bool → List ℕ → Option (List ℕ) → Option (List ℕ) → Option (List ℕ)
      → Result Treated Fault → Type 0
  DiffersFile counts name unread old new result =
      (left : Option (List ℕ)) × Differs counts name unread left old new result

  -- a file in its place: it is replaced exactly if the output is another text, and at a fault all
  -- files are as they were
  abbrev pub Replaces : List ℕ → List Folder → List Folder → Result Treated Fault → Type 0
  Replaces name old new (Ok treated) =
      (left : Option (List ℕ)) × (input : List ℕ) × (output : List ℕ)
      × ReadsText (bytes_at old name) left input output
      × (((output ≡ input) × (new ≡ old) × (treated.replaced ≡ false))
      ⊎ ((output ≢ input) × ReplacesFile name output old new × (treated.replaced ≡ true)))
      × (treated.changes ≡ false) × (treated.applies ≡ work.applies input)
  Replaces name old new (Err (NotUtf8 valid)) =
      ((left : Option (List ℕ)) × ReadsNoText (bytes_at old name) left valid) × (new ≡ old)
  Replaces name old new (Err (Read reason)) = new ≡ old
  Replaces name old new (Err (Output reason)) = ⊥
  Replaces name old new (Err _) = KeepsFiles old new
