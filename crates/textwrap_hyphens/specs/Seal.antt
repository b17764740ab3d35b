-- What tells that the numbers of a dictionary are whole: a version in front, and at the end a sum of all
-- before it.
use Rattle.std.specs.Prelude.{ℕ, ◌+◌, ◌-◌, ◌*◌, ◌%◌, ◌^◌, Bool, ◌==◌, ◌&&◌, List, [], ◌∷◌, ◌++◌}
use Rattle.std.specs.Prelude.{length, nat_le, slice_index, take}

-- "Twh" and a number, which is raised where the layout changes
abbrev pub version : ℕ
version = 0x54776805

-- the nth number from the end
abbrev pub from_end : ℕ → List ℕ → ℕ
from_end n words = slice_index words (length words - n)

-- a sum, to which numbers are added one after another; before each it is tripled, and all is in 64 bits
abbrev pub summed : ℕ → List ℕ → ℕ
summed sum [] = sum
summed sum (word ∷ words) = summed ((3 * sum + word) % 2 ^ 64) words

abbrev pub sum_of : List ℕ → ℕ
sum_of words = summed 0 words

-- the version and the sum are right: they are not any more if one number becomes another
abbrev pub is_sealed : List ℕ → Bool
is_sealed words =
    nat_le 13 (length words) && (slice_index words 0 == version)
    && (from_end 1 words == sum_of (take (length words - 1) words))

-- the numbers with other numbers of letters before and behind a hyphen, and the sum of these
abbrev pub with_minima : ℕ → ℕ → List ℕ → List ℕ
with_minima left right words =
    let before = take (length words - 3) words ++ left ∷ right ∷ [] in before ++ sum_of before ∷ []
