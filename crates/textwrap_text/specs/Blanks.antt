-- Blanks, and those at the end of a text.
use Rattle.std.specs.Prelude.{◌≡◌, ℕ, ◌-◌, ◌<◌, ◌≤◌, Bool, true, ◌==◌, List, length, take}
use Rattle.std.specs.Prelude.{drop, slice_index}
use Rattle.std.specs.List.{suffix_len}

abbrev pub blank : ℕ
blank = 32

abbrev pub is_blank : ℕ → Bool
is_blank c = c == blank

-- how many bytes of a text come before the blanks at its end
abbrev pub trimmed_len : List ℕ → ℕ
trimmed_len bytes = length bytes - suffix_len is_blank bytes

abbrev pub without_final_blanks : List ℕ → List ℕ
without_final_blanks bytes = take (trimmed_len bytes) bytes

abbrev pub final_blanks : List ℕ → List ℕ
final_blanks bytes = drop (trimmed_len bytes) bytes

-- blanks stand from one place on up to another
abbrev pub BlanksBetween : List ℕ → ℕ → ℕ → Type 0
BlanksBetween text from to =
    (k : ℕ) → from ≤ k → k < to → is_blank (slice_index text k) ≡ true
