-- What the words and the lines of a dictionary say: a pattern, an exception, how many letters stay
-- before or behind a hyphen, or what is wrong.
use Rattle.std.specs.Char.{is_whitespace, is_ascii_uppercase}
use Rattle.std.specs.{List.list_all, List.list_any, List.starts_with, Option.option_or}
use Rattle.std.specs.Prelude.{ℕ, suc, Bool, true, false, ◌==◌, ◌&&◌, ◌||◌, not, List, [], ◌∷◌, Option}
use Rattle.std.specs.Prelude.{None, Some, chars, codes, drop, filter, length, if◌then◌else◌, map}
use Rattle.std.specs.Prelude.{nat_eq, nat_lt}
use Rattle.std.specs.Str.{trim}
use Rattle.textwrap_dictionaries.specs.declared.entries.Section.{Section}
use Rattle.textwrap_dictionaries.specs.declared.entries.Section.TheVariants.{Start, Listing, Words}
use Rattle.textwrap_dictionaries.specs.declared.entries.Section.TheVariants.{Patterns, Exceptions}
use Rattle.textwrap_dictionaries.specs.declared.errors.Fault.{Fault}
use Rattle.textwrap_dictionaries.specs.declared.errors.Fault.TheVariants.{NoHyphen, Number, Replacement}
use Rattle.textwrap_dictionaries.specs.declared.errors.Fault.TheVariants.{Sign, TooLong, Hyphens, Word}
use Rattle.textwrap_patterns.specs.Changes.{number_of, region_said, text_before, text_behind}
use Rattle.textwrap_patterns.specs.{Changes.without_changes, Charsets.names_charset}
use Rattle.textwrap_patterns.specs.{Charsets.plain_name, Letters.apostrophe, Letters.curly_apostrophe}
use Rattle.textwrap_patterns.specs.{Letters.folded, Letters.is_hyphen_character, Listed.ExceptionText}
use Rattle.textwrap_patterns.specs.Listed.{exception_text, exception_view, PatternText, pattern_view}
use Rattle.textwrap_patterns.specs.{Places.are_places, Written.is_digit, Written.letters_written}
use Rattle.textwrap_patterns.specs.{Written.pattern_written, declared.changes.Region.Region}
use Rattle.textwrap_dictionaries.specs.declared.entries.Entry as program
use Rattle.textwrap_dictionaries.specs.declared.entries.Entry.TheVariants as entry

pub data Said : Type 0 where
  Pattern : PatternText → Said
  Changed : PatternText → Said
  Exception : ExceptionText → Said
  Left : ℕ → Said
  Right : ℕ → Said
  CompoundLeft : ℕ → Said
  CompoundRight : ℕ → Said
  NextGroup : Said
  Nothing : Said
  Wrong : Fault → Said

abbrev pub entry_view : {A : Type 0} → program.Entry A → Said
entry_view (entry.Pattern pattern) = Pattern (pattern_view pattern)
entry_view (entry.Changed pattern) = Changed (pattern_view pattern)
entry_view (entry.Exception exception) = Exception (exception_view exception)
entry_view (entry.Left left) = Left left
entry_view (entry.Right right) = Right right
entry_view (entry.CompoundLeft left) = CompoundLeft left
entry_view (entry.CompoundRight right) = CompoundRight right
entry_view entry.NextGroup = NextGroup
entry_view entry.Nothing = Nothing
entry_view (entry.Wrong fault) = Wrong fault

-- ---- words

abbrev pub is_hyphen_sign : ℕ → Bool
is_hyphen_sign c = c == 0x2D

-- a character that stands in no word: a blank, `{`, `}`, a backslash, `%`, or U+FFFD, which stands for
-- a byte that a charset does not have
abbrev pub is_sign : ℕ → Bool
is_sign c =
    ((((is_whitespace c || (c == 0x7B)) || (c == 0x7D)) || (c == 0x5C)) || (c == 0x25))
    || (c == 0xFFFD)

abbrev pub has_slash : List ℕ → Bool
has_slash word = list_any (λ c. c == 0x2F) word

abbrev pub has_sign : List ℕ → Bool
has_sign word = list_any is_sign word

abbrev pub has_hyphen : List ℕ → Bool
has_hyphen word = list_any is_hyphen_sign word

abbrev pub has_digit : List ℕ → Bool
has_digit word = list_any is_digit word

-- behind how many letters the hyphens stand, where so many letters stand before
abbrev pub hyphens_past : ℕ → List ℕ → List ℕ
hyphens_past n [] = []
hyphens_past n (c ∷ cs) =
    if is_hyphen_sign c then n ∷ hyphens_past n cs else hyphens_past (suc n) cs

-- the letters of a word without its hyphens
abbrev pub letters_between : List ℕ → List ℕ
letters_between cs = map folded (filter (λ c. not (is_hyphen_sign c)) cs)

-- an exception, if each hyphen is between two letters
abbrev pub exception_written : List ℕ → Option ExceptionText
exception_written cs =
    let letters = letters_between cs in
    let places = hyphens_past 0 cs in
    if are_places (length letters) 0 places then Some (exception_text letters places) else None

abbrev pub exception_or_fault : Option ExceptionText → Said
exception_or_fault None = Wrong Hyphens
exception_or_fault (Some exception) = Exception exception

abbrev pub exception_said : List ℕ → Said
exception_said cs = exception_or_fault (exception_written cs)

-- a pattern has at most 255 letters
abbrev pub pattern_said : List ℕ → Said
pattern_said cs =
    if nat_lt 255 (length (letters_written cs)) then Wrong TooLong else Pattern (pattern_written cs)

-- groups hold either patterns or exceptions; elsewhere an exception has a hyphen and no digit
abbrev pub is_exception : Section → List ℕ → Bool
is_exception Words cs = true
is_exception Patterns cs = false
is_exception Exceptions cs = true
is_exception _ cs = has_hyphen cs && not (has_digit cs)

-- a pattern without the hyphens at which letters change
abbrev pub changed_by : Option Region → PatternText → Said
changed_by None p = Wrong Replacement
changed_by (Some region) p =
    if nat_lt 255 (length p.letters) then Wrong TooLong else Changed (without_changes region p)

-- where its letters change
abbrev pub changes_at : List ℕ → Option Region
changes_at cs = region_said (letters_written (text_before 0x2F cs)) (text_behind 0x2F cs)

abbrev pub changed_said : List ℕ → Said
changed_said cs = changed_by (changes_at cs) (pattern_written (text_before 0x2F cs))

-- a word with a slash, which is no exception
abbrev pub slashed_said : Section → List ℕ → Said
slashed_said section cs = if is_exception section cs then Wrong Replacement else changed_said cs

abbrev pub unslashed_said : Section → List ℕ → Said
unslashed_said section cs = if is_exception section cs then exception_said cs else pattern_said cs

-- a word of a section
abbrev pub word_said : Section → List ℕ → Said
word_said section cs =
    if has_sign cs then Wrong Sign
    else if has_slash cs then slashed_said section cs
    else unslashed_said section cs

-- ---- words between blanks

abbrev pub is_list : Section → Bool
is_list Start = true
is_list Listing = true
is_list Words = true
is_list _ = false

abbrev pub begins : List ℕ → List ℕ → Bool
begins start line = starts_with nat_eq line start

abbrev pub says_levels : List ℕ → Bool
says_levels cs = list_any (λ c. is_digit c || is_hyphen_sign c) cs

-- two capital letters in front, and neither a digit nor a hyphen: such a word says nothing of letters
abbrev pub is_command : List ℕ → Bool
is_command [] = false
is_command (a ∷ []) = false
is_command (a ∷ b ∷ cs) =
    (is_ascii_uppercase a && is_ascii_uppercase b)
    && not (says_levels cs)

-- nor does the sign of a comment in front, behind other words
abbrev pub is_unknown : Section → List ℕ → Bool
is_unknown section cs = is_list section && (is_command cs || begins (codes "#") cs)

-- a word between blanks; in a list one that is not known is wrong
abbrev pub item_said : Section → List ℕ → Said
item_said section cs = if is_unknown section cs then Wrong Word else word_said section cs

-- ---- lines of a list

abbrev pub number_or_fault : (ℕ → Said) → Option ℕ → Said
number_or_fault said None = Wrong Number
number_or_fault said (Some number) = said number

-- what the rest of a line says that has to be a number
abbrev pub number_said : (ℕ → Said) → List ℕ → Said
number_said said number = number_or_fault said (number_of (trim number))

abbrev pub is_start : Section → Bool
is_start Start = true
is_start _ = false

-- what ends a run of letters, or has no point beside it, and what lists such signs
abbrev pub is_joint : ℕ → Bool
is_joint c = ((c == apostrophe) || (c == curly_apostrophe)) || (is_hyphen_character c || (c == 0x2013))

abbrev pub are_joints : List ℕ → Bool
are_joints cs = list_all (λ c. is_joint c || ((c == 0x2C) || is_whitespace c)) cs

-- beside such signs there is no point in any case
abbrev pub beside_said : List ℕ → Said
beside_said cs = if are_joints cs then Nothing else Wrong NoHyphen

-- what a line says that begins with a word of libhyphen
abbrev pub command_said : List ℕ → Option Said
command_said line =
    if begins (codes "LEFTHYPHENMIN") line then Some (number_said Left (drop 13 line))
    else if begins (codes "RIGHTHYPHENMIN") line then Some (number_said Right (drop 14 line))
    else if begins (codes "COMPOUNDLEFTHYPHENMIN") line
    then Some (number_said CompoundLeft (drop 21 line))
    else if begins (codes "COMPOUNDRIGHTHYPHENMIN") line
    then Some (number_said CompoundRight (drop 22 line))
    else if begins (codes "NOHYPHEN") line then Some (beside_said (chars (drop 8 line)))
    else if begins (codes "NEXTLEVEL") line then Some NextGroup
    else None

-- the name of a charset stands in the first line, as in a dictionary of libhyphen, of which 2 letters
-- stay behind a hyphen if it says nothing else
abbrev pub charset_said : Section → List ℕ → Option Said
charset_said section line =
    if is_start section && names_charset (plain_name line) then Some (Right 2) else None

-- what a line of a list, in bytes, says beside patterns and exceptions
abbrev pub whole_said : Section → List ℕ → Option Said
whole_said section line = option_or (command_said line) (charset_said section line)
