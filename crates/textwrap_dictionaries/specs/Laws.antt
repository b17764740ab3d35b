-- Laws of reading: what the definition of `parsed` has to give, said without it.
use Rattle.std.specs.Prelude.{◌≡◌, ℕ, true, false, List, [], ◌∷◌, ◌++◌, All, ◌+◌, ◌%◌, ◌<◌, ◌≤◌, ◌^◌, ◌↔◌, ◌⊎◌}
use Rattle.std.specs.Prelude.{codes, length, slice_index, Option, None, Some, Result, Ok, Err, ⊤, chars, map}
use Rattle.std.specs.Str.{trim, Lines.lines}
use Rattle.textwrap_dictionaries.specs.Dictionaries.{IsException, IsPattern, list_lines, tex_lines}
use Rattle.textwrap_dictionaries.specs.Dictionaries.{text_of_lines}
use Rattle.textwrap_dictionaries.specs.Entries.{Changed, changes_at, word_said}
use Rattle.textwrap_dictionaries.specs.Faults.{IsFirstWrong, IsFirstWrongTex, groups_in, is_comment, is_of_end}
use Rattle.textwrap_dictionaries.specs.{Faults.is_of_line, Parsing.Outcome, Parsing.before_comment}
use Rattle.textwrap_dictionaries.specs.Parsing.{comment_in, is_tex, names_minima, parsed, unmarked}
use Rattle.textwrap_dictionaries.specs.{Sections.IsReadFrom, declared.entries.Section.Section}
use Rattle.textwrap_dictionaries.specs.declared.{entries.Section.TheVariants.Preamble, errors.Fault.Fault}
use Rattle.textwrap_dictionaries.specs.declared.errors.ParseError.TheVariants.{Memory, Line}
use Rattle.textwrap_patterns.specs.{Changes.text_before, Listed.ExceptionText, Listed.Listed}
use Rattle.textwrap_patterns.specs.{Listed.PatternText, Listed.listed, Written.letters_written}
use Rattle.textwrap_patterns.specs.{Written.levels_written, declared.changes.Region.Region}

-- ---- comments

-- what is read, or what is wrong, in whatever line
abbrev pub without_line : Outcome → Result Listed (Option Fault)
without_line (Ok h) = Ok h
without_line (Err (Memory error)) = Err None
without_line (Err (Line n fault)) = Err (Some fault)

-- behind the first line of a list, one that is empty or a comment makes no difference but to the numbers of
-- lines in errors
abbrev pub CommentsOfListsAreSkipped : Type 0
CommentsOfListsAreSkipped =
    (text other first line : List ℕ) (before after : List (List ℕ)) → is_tex first ≡ false
    → is_comment (trim line) ≡ true → lines (unmarked text) ≡ first ∷ before ++ line ∷ after
    → lines (unmarked other) ≡ first ∷ before ++ after
    → without_line (parsed text) ≡ without_line (parsed other)

-- not a text of TeX
abbrev pub AreListed : List (List ℕ) → Type 0
AreListed [] = ⊤
AreListed (first ∷ more) = is_tex first ≡ false

-- nor do blanks on the sides of the lines of a list
abbrev pub BlanksOfListsAreSkipped : Type 0
BlanksOfListsAreSkipped =
    (text other : List ℕ) → AreListed (lines (unmarked text)) → AreListed (lines (unmarked other))
    → map trim (lines (unmarked text)) ≡ map trim (lines (unmarked other)) → parsed text ≡ parsed other

-- the characters of a line before its comment
abbrev pub uncommented : List ℕ → List ℕ
uncommented line = before_comment (chars line)

-- a text of TeX, in which no comment begins the numbers of letters
abbrev pub AreTex : List (List ℕ) → Type 0
AreTex [] = ⊥
AreTex (first ∷ more) =
    (is_tex first ≡ true) × All (λ line. names_minima (comment_in line) ≡ false) (first ∷ more)

-- in such a text no comment makes a difference
abbrev pub CommentsOfTexAreSkipped : Type 0
CommentsOfTexAreSkipped =
    (text other : List ℕ) → AreTex (lines (unmarked text)) → AreTex (lines (unmarked other))
    → map uncommented (lines (unmarked text)) ≡ map uncommented (lines (unmarked other))
    → parsed text ≡ parsed other

-- ---- errors

-- in a list of two groups at most, the line that an error names is the first that is wrong in this way
abbrev pub ErrorsAreOfLines : Type 0
ErrorsAreOfLines =
    (text first : List ℕ) (more : List (List ℕ)) (n : ℕ) (fault : Fault) → is_tex first ≡ false
    → lines (unmarked text) ≡ first ∷ more → groups_in (first ∷ more) ≤ 1 → is_of_line fault ≡ true
    → (parsed text ≡ Err (Line n fault)) ↔ IsFirstWrong false 0 (first ∷ more) n fault

-- and so in a text of TeX in which no comment begins the numbers of letters, each line in its section
abbrev pub ErrorsOfTexAreOfLines : Type 0
ErrorsOfTexAreOfLines =
    (text : List ℕ) (n : ℕ) (fault : Fault) → AreTex (lines (unmarked text)) → is_of_end fault ≡ false
    → (parsed text ≡ Err (Line n fault))
    ↔ IsFirstWrongTex Preamble 0 (map uncommented (lines (unmarked text))) n fault

-- ---- sections

-- a text of TeX in which no comment begins the numbers of letters is read as its parts say, if it has such
abbrev pub SectionsAreRead : Type 0
SectionsAreRead =
    (text : List ℕ) (h : Listed) → AreTex (lines (unmarked text))
    → (parsed text ≡ Ok h) ↔ IsReadFrom (map uncommented (lines (unmarked text))) h

-- ---- letters that change

-- a pattern allows no hyphen before, between or behind the letters that change, and is else what was written
pub record IsChanged (region : Region) (word : List ℕ) (p : PatternText) : Type 0 where
  pub letters : p.letters ≡ letters_written word
  pub inside : (k : ℕ) → region.first ≤ k → k ≤ region.last → slice_index p.levels k % 2 ≡ 0
  pub outside : (k : ℕ) → (k < region.first) ⊎ (region.last < k)
      → slice_index p.levels k ≡ slice_index (levels_written word) k
  pub never_lower : (k : ℕ) → slice_index (levels_written word) k ≤ slice_index p.levels k

-- so it is read, if it is read with a change
abbrev pub ChangesAllowNoHyphen : Type 0
ChangesAllowNoHyphen =
    (section : Section) (cs : List ℕ) (p : PatternText) → word_said section cs ≡ Changed p
    → (region : Region) × (changes_at cs ≡ Some region) × IsChanged region (text_before 0x2F cs) p

-- ---- written texts

-- so many patterns and exceptions can be read
pub record AreWritable (joints patterns : List PatternText) (exceptions : List ExceptionText) : Type 0 where
  pub are_joints : All IsPattern joints
  pub are_patterns : All IsPattern patterns
  pub are_exceptions : All IsException exceptions
  pub few : length patterns ≤ 2 ^ 24
  pub some : 0 < length patterns + length exceptions

-- behind a line that is empty, a list is read as the patterns and exceptions of which it was written
abbrev pub ListsAreRead : Type 0
ListsAreRead =
    (joints patterns : List PatternText) (exceptions : List ExceptionText)
    → AreWritable joints patterns exceptions
    → parsed (text_of_lines ([] ∷ list_lines joints patterns exceptions))
    ≡ Ok (record (listed patterns exceptions 2 3) { joints = joints })

-- and behind a line that names the charset, where 2 letters stay behind a hyphen
abbrev pub NamedListsAreRead : Type 0
NamedListsAreRead =
    (joints patterns : List PatternText) (exceptions : List ExceptionText)
    → AreWritable joints patterns exceptions
    → parsed (text_of_lines (codes "UTF-8" ∷ list_lines joints patterns exceptions))
    ≡ Ok (record (listed patterns exceptions 2 2) { joints = joints })

-- as TeX they are read as the same
abbrev pub TexIsRead : Type 0
TexIsRead =
    (patterns : List PatternText) (exceptions : List ExceptionText) → AreWritable [] patterns exceptions
    → parsed (text_of_lines (tex_lines patterns exceptions))
    ≡ parsed (text_of_lines ([] ∷ list_lines [] patterns exceptions))
