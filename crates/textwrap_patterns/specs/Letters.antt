-- The letters of a word: what is lower-cased, what counts as a letter, and the runs of letters.
use Rattle.std.specs.Prelude.{ℕ, suc, Bool, false, ◌==◌, ◌&&◌, ◌||◌, not, List, [], ◌∷◌, filter}
use Rattle.std.specs.Prelude.{length, map, nat_le, if◌then◌else◌}
use Rattle.std.specs.StrCase.Lower.{lowercase_before}
use Rattle.textwrap_patterns.specs.declared.letters.Letter.{Letter}
use Rattle.textwrap_text.specs.{Characters.characters_of, declared.characters.Character.Character}
use Rattle.textwrap_words.specs.WordOffsets.{soft_hyphen}
use Rattle.unicode.specs.Binary.{is_alphabetic, is_grapheme_extend}

abbrev pub apostrophe : ℕ
apostrophe = 0x27

-- the typographic apostrophe, which stands for the other one
abbrev pub curly_apostrophe : ℕ
curly_apostrophe = 0x2019

-- the only one of these, else the other character
abbrev pub only_of : List ℕ → ℕ → ℕ
only_of [] other = other
only_of (c ∷ []) other = c
only_of (c ∷ d ∷ cs) other = other

-- a character in lower case, if that is one character
abbrev pub lowered : ℕ → ℕ
lowered c = only_of (lowercase_before false c []) c

-- a character as patterns have it: in lower case, and an apostrophe of ASCII
abbrev pub folded : ℕ → ℕ
folded c = if c == curly_apostrophe then apostrophe else lowered c

-- a combining mark
abbrev pub is_combining_mark : ℕ → Bool
is_combining_mark c = is_grapheme_extend c

abbrev pub is_letter_or_mark : ℕ → Bool
is_letter_or_mark c = is_alphabetic c || is_combining_mark c

-- an apostrophe and a mark stand in a word, but count for no letter
abbrev pub counts : ℕ → Bool
counts c = not (c == apostrophe) && not (is_combining_mark c)

-- at least so many of these count
abbrev pub has_letters : ℕ → List ℕ → Bool
has_letters least cs = nat_le least (length (filter counts cs))

-- the hyphens of ASCII and of Unicode
abbrev pub is_hyphen_character : ℕ → Bool
is_hyphen_character c = (c == 0x2D) || (c == 0x2010)

-- a visible character counts, but for a soft hyphen
abbrev pub is_kept : Character → Bool
is_kept c = c.is_visible && not (c.ch == soft_hyphen)

abbrev pub letter_at : Character → Letter
letter_at c = record { at = c.at; ch = folded c.ch }

abbrev pub letters_among : List Character → List Letter
letters_among cs = map letter_at (filter is_kept cs)

-- the visible characters of a word without its soft hyphens, as patterns have them
abbrev pub letters_of : List ℕ → List Letter
letters_of word = letters_among (characters_of word)

abbrev pub begins_letter : List Letter → Bool
begins_letter [] = false
begins_letter (c ∷ cs) = is_letter_or_mark c.ch

-- how many letters stand at the beginning, where an apostrophe before a letter counts as one
abbrev pub run_len : List Letter → ℕ
run_len [] = 0
run_len (c ∷ cs) =
    if is_letter_or_mark c.ch || ((c.ch == apostrophe) && begins_letter cs) then suc (run_len cs) else 0
