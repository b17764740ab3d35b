-- What std has no word for, on lists of bytes or characters.
use Rattle.std.specs.Prelude.{ℕ, ◌-◌, List, length, slice_index}

-- the last element, 0 where there is none
abbrev pub last : List ℕ → ℕ
last cs = slice_index cs (length cs - 1)
