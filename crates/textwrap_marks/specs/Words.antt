-- The words of a line, each with the white behind it, and what is asked of one.
use Rattle.std.specs.Prelude.{◌≡◌, ℕ, ◌==◌, ◌<◌, ◌≤◌, ◌||◌, Bool, not, nat_eq, nat_lt, List, [], ◌∷◌, ◌++◌}
use Rattle.std.specs.Prelude.{slice_index}
use Rattle.std.specs.Prelude.{drop, length, if◌then◌else◌, chars, ◌+◌, Option, Some, None}
use Rattle.std.specs.List.{flat_map, list_all, list_any, prefix_len, slice_split, starts_with}
use Rattle.std.specs.Char.Unicode.Alphabetic.{is_alphabetic}
use Rattle.std.specs.Char.Unicode.Numeric.{is_numeric}
use Rattle.textwrap_marks.specs.declared.words.SpacedWord.{SpacedWord}
use denote.Ref.{Bor}

-- a blank or a tab
abbrev pub is_white : ℕ → Bool
is_white c = c == 32 || c == 9

abbrev pub is_ink : ℕ → Bool
is_ink c = not (is_white c)

-- the bytes from one place to another are white, or none of them is
abbrev pub AreWhite : Bool → List ℕ → ℕ → ℕ → Type 0
AreWhite are text start end =
    (i : ℕ) → start ≤ i → i < end → is_white (slice_index text i) ≡ are

-- what stands between white, and the white behind it
pub record SpacedText : Type 0 where
  pub word : List ℕ
  pub white : List ℕ

abbrev pub spaced_view : SpacedWord → SpacedText
spaced_view w = record { word = w.word.now; white = w.white.now }

abbrev pub has_bytes : List ℕ → Bool
has_bytes word = nat_lt 0 (length word)

-- a byte before a word
abbrev pub onto_word : ℕ → SpacedText → SpacedText
onto_word c w = record { word = c ∷ w.word; white = w.white }

abbrev pub onto_white : ℕ → SpacedText → SpacedText
onto_white c w = record { word = w.word; white = c ∷ w.white }

abbrev pub of_byte : ℕ → SpacedText
of_byte c =
    if is_white c then record { word = []; white = c ∷ [] } else record { word = c ∷ []; white = [] }

-- white before words, of which this is the first: it goes to the white of an empty one
abbrev pub onto_words : ℕ → List ℕ → SpacedText → List SpacedText → List SpacedText
onto_words c [] w ws = onto_white c w ∷ ws
onto_words c (d ∷ word) w ws = of_byte c ∷ w ∷ ws

-- one byte more before the words
abbrev pub with_byte : ℕ → List SpacedText → List SpacedText
with_byte c [] = of_byte c ∷ []
with_byte c (w ∷ ws) =
    if not (is_white c) then onto_word c w ∷ ws
    else onto_words c w.word w ws

-- the words of a line: it is cut where white ends. Only the first may be empty, before white
abbrev pub spaced_words : List ℕ → List SpacedText
spaced_words [] = []
spaced_words (c ∷ cs) = with_byte c (spaced_words cs)

-- what follows the first word of a text and its white
abbrev pub behind_spaced : List ℕ → List ℕ
behind_spaced text =
    let behind = drop (prefix_len is_ink text) text in drop (prefix_len is_white behind) behind

-- the text of words, each with the white behind it
abbrev pub spaced_text : List SpacedText → List ℕ
spaced_text words = flat_map (λ w. w.word ++ w.white) words

abbrev pub is_letter_or_digit : ℕ → Bool
is_letter_or_digit c = is_alphabetic c || is_numeric c

-- some character of it is a letter or a digit
abbrev pub has_letter : List ℕ → Bool
has_letter word = list_any is_letter_or_digit (chars word)

-- this byte is in the text
abbrev pub has_byte : ℕ → List ℕ → Bool
has_byte byte text = list_any (λ c. c == byte) text

-- each byte is this one
abbrev pub is_made_of : ℕ → List ℕ → Bool
is_made_of byte text = list_all (λ c. c == byte) text

-- this text stands somewhere in the other
abbrev pub contains : List ℕ → List ℕ → Bool
contains part [] = starts_with nat_eq [] part
contains part (c ∷ cs) = starts_with nat_eq (c ∷ cs) part || contains part cs

-- ---- parts that are read one after another

-- the parts of what follows a mark, if there is one, and how many bytes are left, where one more
-- stands for that mark
abbrev pub parts_behind_mark : ℕ → Option (Bor (List ℕ)) → List (List ℕ)
parts_behind_mark mark None = []
parts_behind_mark mark (Some rest) = slice_split (λ c. c == mark) rest.now

abbrev pub bytes_left : Option (Bor (List ℕ)) → ℕ
bytes_left None = 0
bytes_left (Some rest) = length rest.now + 1
