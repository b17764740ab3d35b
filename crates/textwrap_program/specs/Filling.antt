-- What the program reads and writes, and what it says of a fault.
use Rattle.std.specs.Prelude.{◌≡◌, ℕ, List, ◌++◌, Option, None, Some, codes}
use Rattle.std.specs.Str.{IsUtf8}
use Rattle.std.specs.Io.KnownBytes.{Appends, Consumes, IsAtEnd, Keeps}
use Rattle.textwrap_layout.specs.Filling.{IsFilledAt}
use Rattle.textwrap_words.specs.WrapAlgorithms.{Algorithm}
use Rattle.textwrap_program.specs.declared.filling.RunError.{RunError}
use Rattle.textwrap_program.specs.declared.filling.RunError.TheVariants.{Read, NotUtf8, Memory, Write}

-- a reader gave this input, and has no more
abbrev pub ReadsAll : Option (List ℕ) → Option (List ℕ) → List ℕ → Type 0
ReadsAll old new input = Consumes old new input × IsAtEnd new

-- a writer took a prefix of the output
abbrev pub WritesPrefix : Option (List ℕ) → Option (List ℕ) → List ℕ → Type 0
WritesPrefix old new output =
    (written : List ℕ) × (rest : List ℕ) × (written ++ rest ≡ output) × Appends old new written

module _ (width : ℕ) (algorithm : Algorithm) where
  -- what becomes of a writer where the input is filled at this width by this algorithm: without a
  -- fault it takes the filled text, at the fault `Write` a prefix of it, and at another nothing.
  -- The fault is `NotUtf8` exactly if the input is no text
  abbrev pub FillsTo : List ℕ → Option (List ℕ) → Option (List ℕ) → Option RunError → Type 0
  FillsTo input old new None =
      IsUtf8 input × ((output : List ℕ) × IsFilledAt width algorithm input output
      × Appends old new output)
  FillsTo input old new (Some Read) = ⊥
  FillsTo input old new (Some NotUtf8) = (¬ IsUtf8 input) × Keeps old new
  FillsTo input old new (Some Memory) = IsUtf8 input × Keeps old new
  FillsTo input old new (Some Write) =
      IsUtf8 input × ((output : List ℕ) × IsFilledAt width algorithm input output
      × WritesPrefix old new output)

  -- what becomes of a reader and a writer: the whole input is read and filled, or there is a fault
  -- before anything is written
  abbrev pub Runs : Option (List ℕ) → Option (List ℕ) → Option (List ℕ) → Option (List ℕ)
      → Option RunError → Type 0
  Runs unread left old new (Some Read) = Keeps old new
  Runs unread left old new (Some Memory) = Keeps old new
  Runs unread left old new None =
      (input : List ℕ) × ReadsAll unread left input × FillsTo input old new None
  Runs unread left old new (Some NotUtf8) =
      (input : List ℕ) × ReadsAll unread left input × FillsTo input old new (Some NotUtf8)
  Runs unread left old new (Some Write) =
      (input : List ℕ) × ReadsAll unread left input × FillsTo input old new (Some Write)

-- what the program says of a fault
abbrev pub fault_line : RunError → List ℕ
fault_line Read = codes "textwrap_cli: cannot read input"
fault_line NotUtf8 = codes "textwrap_cli: input is not UTF-8"
fault_line Memory = codes "textwrap_cli: out of memory"
fault_line Write = codes "textwrap_cli: cannot write output"
