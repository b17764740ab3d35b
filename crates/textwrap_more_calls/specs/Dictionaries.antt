-- Dictionaries that are read into numbers.
use Rattle.std.specs.Prelude.{◌≡◌, ℕ, List, Err, false, true}
use Rattle.textwrap_dictionaries.specs.{Parsing.parsed, declared.errors.Fault.Fault}
use Rattle.textwrap_dictionaries.specs.declared.errors.ParseError.TheVariants.{Line}
use Rattle.textwrap_hyphens.specs.{Parsed.Holds, Seal.is_sealed, Table.held_in}

-- these numbers say what the text says
pub record AreNumbersOf (text words : List ℕ) : Type 0 where
  pub sealed : is_sealed words ≡ true
  pub says : Holds (parsed text) (held_in words false)

-- this is the first line of the text that is wrong
abbrev pub IsWrongAt : List ℕ → ℕ → Type 0
IsWrongAt text line = (fault : Fault) × (parsed text ≡ Err (Line line fault))
