-- A dictionary that is read from a text: line by line, up to the first that is wrong.
use Rattle.std.specs.{Char.is_whitespace, List.list_any, List.prefix_len, List.slice_split, List.starts_with}
use Rattle.std.specs.Option.{is_some}
use Rattle.std.specs.Prelude.{◌≡◌, ℕ, suc, Bool, true, false, ◌==◌, ◌&&◌, ◌||◌, not, List, [], ◌∷◌, ◌++◌, ⊤}
use Rattle.std.specs.Prelude.{Option, None, Some, Result, Ok, Err, chars, codes, drop, filter, if◌then◌else◌}
use Rattle.std.specs.Prelude.{length, map, max, nat_eq, nat_lt, slice_index, take, bytes_eq, min, unwrap_or}
use Rattle.std.specs.Prelude.{◌+◌, ◌-◌, ◌^◌}
use Rattle.std.specs.Str.{trim, Lines.lines}
use Rattle.textwrap_dictionaries.specs.Entries.{Said, Pattern, Changed, Exception, Left, Right, CompoundLeft}
use Rattle.textwrap_dictionaries.specs.Entries.{CompoundRight, NextGroup, Nothing, Wrong, begins, is_list}
use Rattle.textwrap_dictionaries.specs.Entries.{is_start, item_said, number_or_fault, whole_said}
use Rattle.textwrap_dictionaries.specs.declared.entries.Section.{Section, TheVariants.Start}
use Rattle.textwrap_dictionaries.specs.declared.entries.Section.TheVariants.{Listing, Words, Preamble, Patterns}
use Rattle.textwrap_dictionaries.specs.declared.entries.Section.TheVariants.{Exceptions, Behind, Minima}
use Rattle.textwrap_dictionaries.specs.declared.errors.Fault.{Fault}
use Rattle.textwrap_dictionaries.specs.declared.errors.Fault.TheVariants.{Brace, Charset, Empty, Input}
use Rattle.textwrap_dictionaries.specs.declared.errors.Fault.TheVariants.{NextLevel, NoGroup, TooMany, Unclosed}
use Rattle.textwrap_dictionaries.specs.declared.errors.ParseError.{ParseError, TheVariants.Memory}
use Rattle.textwrap_dictionaries.specs.declared.{errors.ParseError.TheVariants.Line, parsing.Reading.Reading}
use Rattle.textwrap_patterns.specs.{Changes.before, Changes.number_of, Changes.text_before, Charsets.decoded}
use Rattle.textwrap_patterns.specs.Listed.{Listed, exception_view, listed, pattern_view}
use Rattle.textwrap_patterns.specs.Written.{is_digit}

-- what a text says, or its first line that is wrong
abbrev pub Outcome : Type 0
Outcome = Result Listed ParseError

abbrev pub and_then : Outcome → (Listed → Outcome) → Outcome
and_then (Ok h) next = next h
and_then (Err error) next = Err error

-- one more, up to what 64 bits hold
abbrev pub counted_on : ℕ → ℕ
counted_on n = min (n + 1) (2 ^ 64 - 1)

-- a dictionary whose patterns so far are those of joints, as a second group begins: there is no third
abbrev pub with_group : ℕ → Listed → Outcome
with_group n h =
    if length h.joints == 0 then Ok (record h { joints = h.patterns; patterns = [] })
    else Err (Line n NextLevel)

-- a dictionary with what a line of this number says
abbrev pub with_said : ℕ → Said → Listed → Outcome
with_said n (Pattern p) h = Ok (record h { patterns = h.patterns ++ p ∷ [] })
with_said n (Changed p) h =
    Ok (record h { patterns = h.patterns ++ p ∷ []; changed = counted_on h.changed })
with_said n (Exception e) h = Ok (record h { exceptions = h.exceptions ++ e ∷ [] })
with_said n (Left left) h = Ok (record h { left = left })
with_said n (Right right) h = Ok (record h { right = right })
with_said n (CompoundLeft left) h = Ok (record h { compound_left = left })
with_said n (CompoundRight right) h = Ok (record h { compound_right = right })
with_said n NextGroup h = with_group n h
with_said n Nothing h = Ok h
with_said n (Wrong fault) h = Err (Line n fault)

abbrev pub with_all : ℕ → List Said → Listed → Outcome
with_all n [] h = Ok h
with_all n (said ∷ more) h = and_then (with_said n said h) (with_all n more)

-- ---- words

abbrev pub is_empty : List ℕ → Bool
is_empty [] = true
is_empty (c ∷ cs) = false

-- the words between blanks, and what they say one after another
abbrev pub words_between : List ℕ → List (List ℕ)
words_between text = filter (λ word. not (is_empty word)) (slice_split is_whitespace text)

abbrev pub text_said : Section → List ℕ → List Said
text_said section text = map (item_said section) (words_between text)

-- this, or else what some words say
abbrev pub said_or : List Said → Option Said → List Said
said_or words None = words
said_or words (Some said) = said ∷ []

-- ---- lists

-- the lines that begin exceptions and end them
abbrev pub begins_exceptions : List ℕ → Bool
begins_exceptions line = bytes_eq line (codes "\\hyphenation{")

abbrev pub ends_exceptions : List ℕ → Bool
ends_exceptions line = bytes_eq line (codes "}")

-- an empty line, a comment, and such a line
abbrev pub is_skipped : List ℕ → Bool
is_skipped line =
    ((length line == 0) || ((slice_index line 0 == 0x25) || (slice_index line 0 == 0x23)))
    || (begins_exceptions line || ends_exceptions line)

abbrev pub list_after : Section → List ℕ → Section
list_after section line =
    if begins_exceptions line then Words
    else if is_start section || ends_exceptions line then Listing
    else section

abbrev pub listed_said : Section → List ℕ → List Said
listed_said section line =
    if is_skipped line then [] else said_or (text_said section (chars line)) (whole_said section line)

-- ---- texts of TeX

-- a line without its comment
abbrev pub before_comment : List ℕ → List ℕ
before_comment cs = text_before 0x25 cs

-- what follows the first place where a mark stands
abbrev pub after_mark : List ℕ → List ℕ → Option (List ℕ)
after_mark mark [] = None
after_mark mark (c ∷ cs) =
    if starts_with nat_eq (c ∷ cs) mark then Some (drop (length mark) (c ∷ cs))
    else after_mark mark cs

abbrev pub patterns_mark : List ℕ
patterns_mark = codes "\\patterns{"

abbrev pub exceptions_mark : List ℕ
exceptions_mark = codes "\\hyphenation{"

abbrev pub is_group : Section → Bool
is_group Patterns = true
is_group Exceptions = true
is_group _ = false

-- the section once a line opened a group, and the text of the line that stands in the group
abbrev pub opened : Section → List ℕ → Section
opened section line =
    if is_group section then section
    else if is_some (after_mark patterns_mark line) then Patterns
    else if is_some (after_mark exceptions_mark line) then Exceptions
    else section

abbrev pub opened_text : Section → List ℕ → List ℕ
opened_text section line =
    if is_group section then line
    else unwrap_or (after_mark patterns_mark line) (unwrap_or (after_mark exceptions_mark line) [])

-- a command before a group, in any place of a line
abbrev pub names_group : List ℕ → Bool
names_group line =
    is_some (after_mark (codes "\\patterns") line)
    || is_some (after_mark (codes "\\hyphenation") line)

-- the first `}` ends a group, if no `{` follows in the line: such a line is wrong
abbrev pub has_opening : List ℕ → Bool
has_opening text = list_any (λ c. c == 0x7B) text

abbrev pub is_closed : List ℕ → Bool
is_closed text =
    nat_lt (before 0x7D text) (length text) && not (has_opening (drop (before 0x7D text) text))

abbrev pub closed : Section → List ℕ → Section
closed section text = if is_closed text then Behind else section

abbrev pub closed_text : List ℕ → List ℕ
closed_text text = if is_closed text then take (before 0x7D text) text else text

-- the command that reads another file
abbrev pub has_input : List ℕ → Bool
has_input line =
    is_some (after_mark (codes "\\input ") line) || is_some (after_mark (codes "\\input{") line)

-- outside of groups nothing counts, but a command before a group that opens none is wrong, and so is one
-- that reads another file
abbrev pub outside_fault : List ℕ → Option Fault
outside_fault line =
    if names_group line then Some Brace else if has_input line then Some Input else None

abbrev pub fault_said : Option Fault → List Said
fault_said None = []
fault_said (Some fault) = Wrong fault ∷ []

abbrev pub tex_said : Section → List ℕ → List Said
tex_said section line =
    if is_group (opened section line)
    then text_said (opened section line) (closed_text (opened_text section line))
    else fault_said (outside_fault line)

abbrev pub tex_after : Section → List ℕ → Section
tex_after section line =
    if is_group (opened section line) then closed (opened section line) (opened_text section line)
    else section

-- ---- the header of a text of TeX, as those of hyph-utf8 have it

-- a comment without its sign and the blanks on its sides
abbrev pub comment_in : List ℕ → List ℕ
comment_in line = if begins (codes "%") (trim line) then trim (drop 1 (trim line)) else []

-- behind this comment come the numbers of letters
abbrev pub names_minima : List ℕ → Bool
names_minima comment = bytes_eq comment (codes "typesetting:")

-- the number at the beginning
abbrev pub first_number : List ℕ → Option ℕ
first_number text = number_of (take (prefix_len is_digit text) text)

abbrev pub minimum_said : List ℕ → Option Said
minimum_said comment =
    if begins (codes "left:") comment
    then Some (number_or_fault Left (first_number (trim (drop 5 comment))))
    else if begins (codes "right:") comment
    then Some (number_or_fault Right (first_number (trim (drop 6 comment))))
    else None

-- ---- lines

-- a text of TeX begins with a comment or a command
abbrev pub is_tex : List ℕ → Bool
is_tex line = (slice_index line 0 == 0x25) || (slice_index line 0 == 0x5C)

abbrev pub is_minima : Section → Bool
is_minima Minima = true
is_minima _ = false

-- the section in which a line is read
abbrev pub entered : Section → List ℕ → Section
entered section line =
    if is_start section && is_tex line then Preamble
    else if is_minima section && not (is_some (minimum_said (comment_in line))) then Preamble
    else section

abbrev pub is_preamble : Section → Bool
is_preamble Preamble = true
is_preamble _ = false

-- a line of a text of TeX, which in its header says how many letters stay, or begins this
abbrev pub begins_minima : Section → List ℕ → Bool
begins_minima section line = is_preamble section && names_minima (comment_in line)

abbrev pub header_said : Section → List ℕ → List Said
header_said section line =
    if is_minima section then said_or [] (minimum_said (comment_in line))
    else if begins_minima section line then []
    else tex_said section (before_comment (chars line))

abbrev pub header_after : Section → List ℕ → Section
header_after section line =
    if is_minima section then Minima
    else if begins_minima section line then Minima
    else tex_after section (before_comment (chars line))

-- what a line in bytes says that is read in a section
abbrev pub said_in : Section → List ℕ → List Said
said_in section line =
    if is_list section then listed_said section (trim line) else header_said section line

abbrev pub section_behind : Section → List ℕ → Section
section_behind section line =
    if is_list section then list_after section (trim line) else header_after section line

abbrev pub line_said : Section → List ℕ → List Said
line_said section line = said_in (entered section line) line

abbrev pub section_after : Section → List ℕ → Section
section_after section line = section_behind (entered section line) line

-- what is wrong at the end of a text that said so many patterns and exceptions
abbrev pub count_fault : ℕ → ℕ → Option Fault
count_fault patterns exceptions =
    if nat_lt 16777216 patterns then Some TooMany
    else if (patterns == 0) && (exceptions == 0) then Some Empty
    else None

abbrev pub end_fault : Section → ℕ → ℕ → Option Fault
end_fault Preamble patterns exceptions = Some NoGroup
end_fault Minima patterns exceptions = Some NoGroup
end_fault Patterns patterns exceptions = Some Unclosed
end_fault Exceptions patterns exceptions = Some Unclosed
end_fault _ patterns exceptions = count_fault patterns exceptions

-- it is told of the last line, and of the first of a text without lines
abbrev pub ended : ℕ → Option Fault → Listed → Outcome
ended n None h = Ok h
ended n (Some fault) h = Err (Line (max n 1) fault)

-- a dictionary with what these lines say, behind so many others
abbrev pub with_lines : ℕ → Section → List (List ℕ) → Listed → Outcome
with_lines n section [] h =
    ended n (end_fault section (length h.patterns) (length h.exceptions)) h
with_lines n section (line ∷ more) h =
    and_then (with_all (suc n) (line_said section line) h)
    (with_lines (suc n) (section_after section line) more)

-- 2 letters stay before a hyphen and 3 behind it where a text does not say it
abbrev pub no_patterns : Listed
no_patterns = listed [] [] 2 3

-- the mark that may stand before a text in UTF-8
abbrev pub byte_order_mark : List ℕ
byte_order_mark = 0xEF ∷ 0xBB ∷ 0xBF ∷ []

abbrev pub unmarked : List ℕ → List ℕ
unmarked text = if begins byte_order_mark text then drop 3 text else text

-- what a text says
abbrev pub parsed : List ℕ → Outcome
parsed text = with_lines 0 Start (lines (unmarked text)) no_patterns

-- what bytes say that are not UTF-8: the text that they stand for in the charset of their first line
abbrev pub parsed_in : Option (List ℕ) → List ℕ → Outcome
parsed_in None bytes = Err (Line 1 Charset)
parsed_in (Some table) bytes = parsed (decoded table bytes)

-- ---- results

-- what was read so far
abbrev pub reading_view : {A : Type 0} → Reading A → Listed
reading_view reading = record {
  joints = map pattern_view reading.joints.items;
  patterns = map pattern_view reading.patterns.items;
  exceptions = map exception_view reading.exceptions.items;
  left = reading.left;
  right = reading.right;
  compound_left = reading.compound_left;
  compound_right = reading.compound_right;
  changed = reading.changed;
}

-- a result has the outcome, or memory ran out
abbrev pub Reads : {T : Type 0} → Outcome → (T → Listed) → Result T ParseError → Type 0
Reads outcome view (Ok result) = outcome ≡ Ok (view result)
Reads outcome view (Err (Memory error)) = ⊤
Reads outcome view (Err (Line n fault)) = outcome ≡ Err (Line n fault)
