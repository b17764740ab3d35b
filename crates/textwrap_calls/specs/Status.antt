-- What a call answers.
use Rattle.std.specs.Prelude.{ℕ}

abbrev pub done : ℕ
done = 0

abbrev pub not_utf8 : ℕ
not_utf8 = 1

abbrev pub out_of_memory : ℕ
out_of_memory = 2

abbrev pub too_small : ℕ
too_small = 3

abbrev pub unknown_options : ℕ
unknown_options = 4

abbrev pub overflow : ℕ
overflow = 5

abbrev pub wrong_places : ℕ
wrong_places = 6
