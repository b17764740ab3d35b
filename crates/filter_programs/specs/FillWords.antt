-- How the words after the program's name are written for the command line.
use Rattle.std.specs.Prelude.{ℕ, Bool, ◌&&◌, false, nat_lt, length, List, [], ◌∷◌}
use Rattle.std.specs.Prelude.{Option, None, Some, bytes_eq, codes, if◌then◌else◌}
use Rattle.std.specs.Str.{all_ascii_digits}
use Rattle.text_filters.specs.Words as filters

-- one or more ASCII digits
abbrev pub is_digit_word : List ℕ → Bool
is_digit_word word = nat_lt 0 (length word) && all_ascii_digits word

-- the flag of the algorithm of a name
abbrev pub flag_of : List ℕ → Option (List ℕ)
flag_of name =
    if bytes_eq name (codes "first") then Some (codes "--first-fit")
    else if bytes_eq name (codes "optimal") then Some (codes "--least-cost")
    else None

abbrev flagged : Option (List ℕ) → List (List ℕ) → List (List ℕ) → List (List ℕ)
flagged (Some flag) rest words = flag ∷ filters.spelled_out false rest
flagged None rest words = filters.spelled_out false words

-- behind a width the name of an algorithm is its flag
abbrev pub spelled_algorithm : List (List ℕ) → List (List ℕ)
spelled_algorithm [] = []
spelled_algorithm (name ∷ rest) = flagged (flag_of name) rest (name ∷ rest)

-- a number that comes first is the width
abbrev pub spelled_for_fill : List (List ℕ) → List (List ℕ)
spelled_for_fill [] = []
spelled_for_fill (word ∷ words) =
    if is_digit_word word then codes "-w" ∷ word ∷ spelled_algorithm words
    else filters.spelled_out false (word ∷ words)
