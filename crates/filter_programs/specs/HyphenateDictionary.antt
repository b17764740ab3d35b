-- What is read of a dictionary.
use Rattle.filter_programs.specs.declared.hyphenate.arguments.Request.{Request}
use Rattle.filter_programs.specs.declared.hyphenate.dictionary.Failure.{Failure}
use Rattle.filter_programs.specs.declared.hyphenate.dictionary.Failure.TheVariants.{Unread, Wrong}
use Rattle.std.specs.Prelude.{◌≡◌, ℕ, List, ⊤, Option, Result, Ok, Err, unwrap_or}
use Rattle.std.specs.Str.{IsUtf8}
use Rattle.text_filters.specs.declared.faults.Fault.TheVariants.{Read, Memory}
use Rattle.textwrap_dictionaries.specs.Parsing.{parsed, parsed_in}
use Rattle.textwrap_dictionaries.specs.declared.errors.ParseError.TheVariants.{Line}
use Rattle.textwrap_hyphens.specs.{Hyphenation.Hyphenation, Parsed.Holds, Table.patterns_view}
use Rattle.textwrap_hyphens.specs.declared.dictionary.Patterns.{Patterns}
use Rattle.textwrap_patterns.specs.Charsets.{charset_of}
use Rattle.textwrap_program.specs.Filling.{ReadsAll}

-- these bytes say this, as a text or in the charset that they name
abbrev pub IsSaid : List ℕ → Hyphenation → Type 0
IsSaid bytes h =
    (IsUtf8 bytes → Holds (parsed bytes) h)
    × (¬ (IsUtf8 bytes) → Holds (parsed_in (charset_of bytes) bytes) h)

-- or they are no dictionary, and this is why
abbrev pub IsNoDictionary : List ℕ → Failure → Type 0
IsNoDictionary bytes (Wrong line fault) =
    (IsUtf8 bytes → parsed bytes ≡ Err (Line line fault))
    × (¬ (IsUtf8 bytes) → parsed_in (charset_of bytes) bytes ≡ Err (Line line fault))
IsNoDictionary bytes (Unread Memory) = ⊤
IsNoDictionary bytes (Unread _) = ⊥

abbrev pub IsDictionary : {Z : Type 0} → List ℕ → Result (Patterns Z) Failure → Type 0
IsDictionary bytes (Ok patterns) = IsSaid bytes (patterns_view patterns)
IsDictionary bytes (Err failure) = IsNoDictionary bytes failure

-- the minima that are asked for, and the dictionary's own for those that are not
abbrev pub with_asked_minima : Option ℕ → Option ℕ → Hyphenation → Hyphenation
with_asked_minima left right h =
    record h { left = unwrap_or left h.left; right = unwrap_or right h.right }

-- and the soft hyphens of a word alone as its points, if they are asked for
abbrev pub as_asked : Request → Hyphenation → Hyphenation
as_asked request h =
    record (with_asked_minima request.left request.right h) { soft_hyphens = request.soft_hyphens }

-- ---- what is read

abbrev pub ReadsSaid : Option (List ℕ) → Hyphenation → Type 0
ReadsSaid unread h =
    (bytes : List ℕ) × (left : Option (List ℕ)) × ReadsAll unread left bytes × IsSaid bytes h

-- whether a dictionary can be read is the system's matter
abbrev pub ReadsNone : Option (List ℕ) → Failure → Type 0
ReadsNone unread (Unread (Read reason)) = ⊤
ReadsNone unread (Unread Memory) = ⊤
ReadsNone unread failure =
    (bytes : List ℕ) × (left : Option (List ℕ)) × ReadsAll unread left bytes
    × IsNoDictionary bytes failure

abbrev pub ReadsDictionary : {Z : Type 0} → Option (List ℕ) → Result (Patterns Z) Failure → Type 0
ReadsDictionary unread (Ok patterns) = ReadsSaid unread (patterns_view patterns)
ReadsDictionary unread (Err failure) = ReadsNone unread failure
