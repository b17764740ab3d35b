-- What a call on hyphenation answers beside the statuses of `textwrap_calls`.
use Rattle.std.specs.Prelude.{ℕ}

abbrev pub wrong_patterns : ℕ
wrong_patterns = 7

abbrev pub damaged_table : ℕ
damaged_table = 8
