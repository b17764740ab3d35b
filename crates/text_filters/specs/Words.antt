-- How the words after the program's name are written for the command line.
use Rattle.std.specs.Prelude.{ℕ, ◌==◌, ◌&&◌, ◌||◌, Bool, not, nat_le, List, [], ◌∷◌, ◌++◌}
use Rattle.std.specs.Prelude.{bytes_eq, codes, drop, if◌then◌else◌, slice_index}

abbrev pub is_digit : ℕ → Bool
is_digit c = nat_le 48 c && nat_le c 57

-- a hyphen, and a digit behind it
abbrev pub is_short_width : List ℕ → Bool
is_short_width word = slice_index word 0 == 45 && is_digit (slice_index word 1)

-- such a word is the option for the width, and its value
abbrev pub spelled_word : Bool → List ℕ → List (List ℕ)
spelled_word past word =
    if not past && is_short_width word then codes "-w" ∷ drop 1 word ∷ [] else word ∷ []

-- each word so, but behind `--`, where names of files stand
abbrev pub spelled_out : Bool → List (List ℕ) → List (List ℕ)
spelled_out past [] = []
spelled_out past (word ∷ words) =
    let past = past || bytes_eq word (codes "--") in spelled_word past word ++ spelled_out past words
