-- A dictionary that was read from a text.
use Rattle.std.specs.Prelude.{◌≡◌, ⊤, Result, Ok, Err}
use Rattle.textwrap_dictionaries.specs.{Parsing.Outcome, declared.errors.ParseError.ParseError}
use Rattle.textwrap_dictionaries.specs.declared.errors.ParseError.TheVariants.{Line, Memory}
use Rattle.textwrap_hyphens.specs.Hyphenation.{Hyphenation, hyphenation_by}
use Rattle.textwrap_hyphens.specs.{Table.patterns_view, declared.dictionary.Patterns.Patterns}

-- a dictionary says what is listed
abbrev pub Holds : Outcome → Hyphenation → Type 0
Holds (Ok d) h = h ≡ hyphenation_by d
Holds (Err error) h = ⊥

-- a dictionary is what its text says, an error its first line that is wrong; or memory ran out
abbrev pub IsParsed : {A : Type 0} → Outcome → Result (Patterns A) ParseError → Type 0
IsParsed outcome (Ok patterns) = Holds outcome (patterns_view patterns)
IsParsed outcome (Err (Memory error)) = ⊤
IsParsed outcome (Err (Line n fault)) = outcome ≡ Err (Line n fault)
