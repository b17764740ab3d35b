-- The sections of a text of TeX: lines outside of groups, and groups of patterns or exceptions.
use Rattle.std.specs.List.{flat_map}
use Rattle.std.specs.Prelude.{◌≡◌, Bool, true, false, List, [], ◌∷◌, All, ℕ, None, Ok, Some, length}
use Rattle.textwrap_dictionaries.specs.{Entries.Said, Parsing.after_mark}
use Rattle.textwrap_dictionaries.specs.Parsing.{closed_text, count_fault, exceptions_mark, fault_said, is_closed}
use Rattle.textwrap_dictionaries.specs.Parsing.{no_patterns, outside_fault, patterns_mark, text_said, with_all}
use Rattle.textwrap_dictionaries.specs.declared.entries.Section.{Section}
use Rattle.textwrap_dictionaries.specs.declared.entries.Section.TheVariants.{Patterns, Exceptions}
use Rattle.textwrap_patterns.specs.Listed.{Listed}

-- a line outside of groups; or a group, of exceptions or not: its first line, the text of that line in the
-- group, and the lines behind
pub data Part : Type 0 where
  Outside : List ℕ → Part
  Group : Bool → List ℕ → List ℕ → List (List ℕ) → Part

abbrev pub lines_of : Part → List (List ℕ)
lines_of (Outside line) = line ∷ []
lines_of (Group exceptions line text more) = line ∷ more

-- behind a mark in a line this text stands in a group
abbrev pub IsOpened : Bool → List ℕ → List ℕ → Type 0
IsOpened false line text = after_mark patterns_mark line ≡ Some text
IsOpened true line text =
    (after_mark patterns_mark line ≡ None) × (after_mark exceptions_mark line ≡ Some text)

-- the last of these texts closes a group, and no other does
abbrev pub IsClosedBehind : List (List ℕ) → Type 0
IsClosedBehind [] = ⊥
IsClosedBehind (text ∷ []) = is_closed text ≡ true
IsClosedBehind (text ∷ next ∷ more) = (is_closed text ≡ false) × IsClosedBehind (next ∷ more)

-- no mark stands in a line outside of groups; a group goes from a mark to the line that closes it
abbrev pub IsTexPart : Part → Type 0
IsTexPart (Outside line) = (after_mark patterns_mark line ≡ None) × (after_mark exceptions_mark line ≡ None)
IsTexPart (Group exceptions line text more) = IsOpened exceptions line text × IsClosedBehind (text ∷ more)

abbrev pub section_in : Bool → Section
section_in false = Patterns
section_in true = Exceptions

-- the words of a group say what they do in it, and a line outside only what is wrong
abbrev pub part_said : Part → List Said
part_said (Outside line) = fault_said (outside_fault line)
part_said (Group exceptions line text more) =
    flat_map (λ l. text_said (section_in exceptions) (closed_text l)) (text ∷ more)

abbrev pub has_group : List Part → Bool
has_group [] = false
has_group (Outside line ∷ parts) = has_group parts
has_group (Group exceptions line text more ∷ parts) = true

-- these lines are parts, among which is a group, and what these say in order is this dictionary
pub record IsReadFrom (ls : List (List ℕ)) (h : Listed) : Type 0 where
  pub parts : List Part
  pub lines : ls ≡ flat_map lines_of parts
  pub each : All IsTexPart parts
  pub some : has_group parts ≡ true
  pub said : with_all 0 (flat_map part_said parts) no_patterns ≡ Ok h
  pub counted : count_fault (length h.patterns) (length h.exceptions) ≡ None
