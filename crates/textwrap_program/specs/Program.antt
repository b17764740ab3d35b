-- What the program leaves behind, and the status that it ends with.
use Rattle.std.specs.Prelude.{◌≡◌, ℕ, List, [], ◌∷◌, ◌++◌, Option, None, Some, codes}
use Rattle.std.specs.Io.KnownBytes.{Keeps}
use Rattle.textwrap_program.specs.Arguments.{asked_algorithm}
use Rattle.textwrap_program.specs.Filling.{WritesPrefix, Runs, fault_line}
use Rattle.textwrap_program.specs.declared.arguments.FillRequest.{FillRequest}
use Rattle.textwrap_program.specs.declared.filling.RunError.{RunError}
pub use Rattle.textwrap_text.specs.LineEnding.{line_feed}

-- what a reader has left, and what two writers hold, where that is known
pub record Streams : Type 0 where
  pub unread : Option (List ℕ)
  pub output : Option (List ℕ)
  pub messages : Option (List ℕ)

abbrev pub usage_line : List ℕ
usage_line = codes "usage: textwrap_cli WIDTH [first|optimal]"

-- a writer took this line, or a prefix of it where it failed
abbrev pub TriesLine : Option (List ℕ) → Option (List ℕ) → List ℕ → Type 0
TriesLine old new line = WritesPrefix old new (line ++ line_feed ∷ [])

-- without a fault nothing is said, and the status is 0
abbrev pub Reports : Option RunError → Option (List ℕ) → Option (List ℕ) → ℕ → Type 0
Reports None old new status = Keeps old new × (status ≡ 0)
Reports (Some fault) old new status = TriesLine old new (fault_line fault) × (status ≡ 1)

-- words that mean no request are answered by the usage, and nothing is read or written; a request
-- is run
abbrev pub Executes : Option FillRequest → Streams → Streams → ℕ → Type 0
Executes None old new status =
    Keeps old.unread new.unread × Keeps old.output new.output
    × TriesLine old.messages new.messages usage_line × (status ≡ 2)
Executes (Some request) old new status =
    (fault : Option RunError)
    × Runs request.width (asked_algorithm request.algorithm) old.unread new.unread
    old.output new.output fault
    × Reports fault old.messages new.messages status
