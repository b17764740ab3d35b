-- What is wrong with a line, said of this line alone, and in a text of TeX of where it stands.
use Rattle.std.specs.List.{list_any, slice_split}
use Rattle.std.specs.Prelude.{◌≡◌, ◌≢◌, ℕ, zero, suc, ◌==◌, ◌&&◌, ◌||◌, not, Bool, true, false, List, [], ◌∷◌}
use Rattle.std.specs.Prelude.{◌++◌, ◌⊎◌, None, Some, chars, codes, filter, length, nat_lt}
use Rattle.std.specs.Str.{trim}
use Rattle.textwrap_dictionaries.specs.Entries.{are_joints, begins, changes_at, has_sign, has_slash, is_exception}
use Rattle.textwrap_dictionaries.specs.{Entries.is_hyphen_sign, Entries.is_unknown, Parsing.begins_exceptions}
use Rattle.textwrap_dictionaries.specs.Parsing.{closed_text, ends_exceptions, is_empty, is_group, opened}
use Rattle.textwrap_dictionaries.specs.Parsing.{opened_text, outside_fault, tex_after, words_between}
use Rattle.textwrap_dictionaries.specs.declared.entries.Section.{Section, TheVariants.Listing, TheVariants.Words}
use Rattle.textwrap_dictionaries.specs.declared.errors.Fault.{Fault}
use Rattle.textwrap_patterns.specs.Changes.{number_of, text_before}
use Rattle.textwrap_patterns.specs.{Charsets.names_charset, Charsets.plain_name, Written.letters_written}
use Rattle.textwrap_dictionaries.specs.declared.errors.Fault.TheVariants as fault

-- an empty line and a comment
abbrev pub is_comment : List ℕ → Bool
is_comment [] = true
is_comment (b ∷ bs) = (b == 0x25) || (b == 0x23)

-- a word behind which no number of one digit or two stands
abbrev pub LacksNumber : List ℕ → List ℕ → Type 0
LacksNumber word line = (rest : List ℕ) × (line ≡ word ++ rest) × (number_of (trim rest) ≡ None)

-- the words of libhyphen
abbrev pub begins_word : List ℕ → Bool
begins_word line =
    begins (codes "LEFTHYPHENMIN") line || (begins (codes "RIGHTHYPHENMIN") line
    || (begins (codes "COMPOUNDLEFTHYPHENMIN") line || (begins (codes "COMPOUNDRIGHTHYPHENMIN") line
    || (begins (codes "NOHYPHEN") line || begins (codes "NEXTLEVEL") line))))

-- what begins exceptions or ends them
abbrev pub marks_exceptions : List ℕ → Bool
marks_exceptions line = begins_exceptions line || ends_exceptions line

abbrev pub is_silent : List ℕ → Bool
is_silent line = is_comment line || marks_exceptions line

-- neither these nor such a word
abbrev pub IsOther : List ℕ → Type 0
IsOther line = (is_silent line ≡ false) × (begins_word line ≡ false)

-- with a slash, and without signs
abbrev pub IsSlashed : List ℕ → Type 0
IsSlashed cs = (has_sign cs ≡ false) × (has_slash cs ≡ true)

-- without slashes and signs
abbrev pub IsClean : List ℕ → Type 0
IsClean cs = (has_sign cs ≡ false) × (has_slash cs ≡ false)

-- with more than 255 letters
abbrev pub IsLong : List ℕ → Type 0
IsLong cs = nat_lt 255 (length (letters_written cs)) ≡ true

-- nothing stands between two hyphens, or beside one at an end
abbrev pub has_gap : List ℕ → Bool
has_gap [] = false
has_gap (c ∷ cs) = list_any is_empty (slice_split is_hyphen_sign (c ∷ cs))

-- as an exception or as a pattern, a word is wrong in this way
abbrev pub IsWrongWord : Bool → Fault → List ℕ → Type 0
IsWrongWord exception fault.Replacement cs =
    IsSlashed cs × ((exception ≡ true) ⊎ (changes_at cs ≡ None))
IsWrongWord exception fault.Sign cs = has_sign cs ≡ true
IsWrongWord exception fault.TooLong cs =
    (exception ≡ false)
    × ((IsClean cs × IsLong cs) ⊎ (IsSlashed cs × (changes_at cs ≢ None) × IsLong (text_before 0x2F cs)))
IsWrongWord exception fault.Hyphens cs = IsClean cs × (exception ≡ true) × (has_gap cs ≡ true)
IsWrongWord exception _ cs = ⊥

-- so is a word of a section, if it is known
abbrev pub IsWrongItem : Section → Fault → List ℕ → Type 0
IsWrongItem section fault.Word cs = is_unknown section cs ≡ true
IsWrongItem section fault cs =
    (is_unknown section cs ≡ false) × IsWrongWord (is_exception section cs) fault cs

-- of these words the first that is wrong is so in this way
abbrev pub IsFirstWrongItem : Section → Fault → List (List ℕ) → Type 0
IsFirstWrongItem section fault [] = ⊥
IsFirstWrongItem section fault (word ∷ words) =
    IsWrongItem section fault word
    ⊎ (((other : Fault) → ¬ IsWrongItem section other word) × IsFirstWrongItem section fault words)

-- the section of a list, among exceptions or not
abbrev pub listed_in : Bool → Section
listed_in true = Words
listed_in false = Listing

-- a line without the blanks on its sides, among exceptions or not, is wrong in this way: behind a word of
-- libhyphen, or in one of its own words
abbrev pub IsWrong : Bool → Fault → List ℕ → Type 0
IsWrong among fault.NoHyphen line =
    (rest : List ℕ) × (line ≡ codes "NOHYPHEN" ++ rest) × (are_joints (chars rest) ≡ false)
IsWrong among fault.Number line =
    LacksNumber (codes "LEFTHYPHENMIN") line ⊎ (LacksNumber (codes "RIGHTHYPHENMIN") line
    ⊎ (LacksNumber (codes "COMPOUNDLEFTHYPHENMIN") line ⊎ LacksNumber (codes "COMPOUNDRIGHTHYPHENMIN") line))
IsWrong among fault line = IsOther line × IsFirstWrongItem (listed_in among) fault (words_between (chars line))

-- the first line may name a charset, whatever else it is
abbrev pub IsWrongLine : Bool → ℕ → Fault → List ℕ → Type 0
IsWrongLine among zero fault line =
    IsWrong among fault (trim line) × (names_charset (plain_name (trim line)) ≡ false)
IsWrongLine among (suc n) fault line = IsWrong among fault (trim line)

-- whether the lines behind this one are exceptions
abbrev pub are_among : Bool → List ℕ → Bool
are_among among line = begins_exceptions line || (among && not (ends_exceptions line))

-- of lines behind so many others, the one of this number is the first that is wrong
abbrev pub IsFirstWrong : Bool → ℕ → List (List ℕ) → ℕ → Fault → Type 0
IsFirstWrong among before [] n fault = ⊥
IsFirstWrong among before (line ∷ more) n fault =
    ((n ≡ suc before) × IsWrongLine among before fault line)
    ⊎ (((other : Fault) → ¬ IsWrongLine among before other line)
    × IsFirstWrong (are_among among (trim line)) (suc before) more n fault)

-- how many lines begin a second group
abbrev pub groups_in : List (List ℕ) → ℕ
groups_in ls = length (filter (λ line. begins (codes "NEXTLEVEL") (trim line)) ls)

-- those of a line, and neither of two nor of a text
abbrev pub is_of_line : Fault → Bool
is_of_line fault.NoHyphen = true
is_of_line fault.Word = true
is_of_line fault.Number = true
is_of_line fault.Replacement = true
is_of_line fault.Sign = true
is_of_line fault.TooLong = true
is_of_line fault.Hyphens = true
is_of_line _ = false

-- ---- texts of TeX

-- a line without its comment is wrong in a word of its group, or outside of groups by itself
abbrev pub IsWrongTex : Section → Fault → List ℕ → Type 0
IsWrongTex section fault line =
    ((is_group (opened section line) ≡ true)
    × IsFirstWrongItem (opened section line) fault (words_between (closed_text (opened_text section line))))
    ⊎ ((is_group (opened section line) ≡ false) × (outside_fault line ≡ Some fault))

-- of such lines behind so many others, the first of which stands in this section
abbrev pub IsFirstWrongTex : Section → ℕ → List (List ℕ) → ℕ → Fault → Type 0
IsFirstWrongTex section before [] n fault = ⊥
IsFirstWrongTex section before (line ∷ more) n fault =
    ((n ≡ suc before) × IsWrongTex section fault line)
    ⊎ (((other : Fault) → ¬ IsWrongTex section other line)
    × IsFirstWrongTex (tex_after section line) (suc before) more n fault)

-- those of a whole text
abbrev pub is_of_end : Fault → Bool
is_of_end fault.NoGroup = true
is_of_end fault.Unclosed = true
is_of_end fault.Empty = true
is_of_end fault.TooMany = true
is_of_end _ = false
