-- Columns with tabs, and how deep text stands.
use Rattle.std.specs.Prelude.{ℕ, ◌+◌, ◌-◌, ◌%◌, ◌^◌, ◌==◌, ◌&&◌, min, Bool, nat_le, bytes_eq}
use Rattle.std.specs.Prelude.{List}
use Rattle.std.specs.Prelude.{[], ◌∷◌, length, take, drop, if◌then◌else◌, string_bytes}
use Rattle.std.specs.List.{prefix_len, slice_split, suffix_len}
use Rattle.textwrap_text.specs.Units.{text_width}
use Rattle.textwrap_marks.specs.Words.{has_bytes, is_white}
use Rattle.textwrap_marked_lines.specs.declared.columns.Depth.{Depth}

-- columns are counted up to the largest number of 64 bits
abbrev pub plus_columns : ℕ → ℕ → ℕ
plus_columns at more = min (at + more) (2 ^ 64 - 1)

-- where a tab leads: the next column that eight divides
abbrev pub next_stop : ℕ → ℕ
next_stop at = plus_columns at (8 - at % 8)

-- the column behind these parts, with a tab before each
abbrev pub columns_behind : ℕ → List (List ℕ) → ℕ
columns_behind at [] = at
columns_behind at (part ∷ parts) =
    columns_behind (plus_columns (next_stop at) (text_width part)) parts

-- the column behind these parts, with a tab between each two
abbrev pub columns_of : List (List ℕ) → ℕ
columns_of [] = 0
columns_of (part ∷ parts) = columns_behind (text_width part) parts

-- the columns of a text that begins a line
abbrev pub text_columns : List ℕ → ℕ
text_columns text = columns_of (slice_split (λ c. c == 9) text)

-- ---- depth

abbrev pub leading_white : List ℕ → List ℕ
leading_white text = take (prefix_len is_white text) text

abbrev pub behind_white : List ℕ → List ℕ
behind_white text = drop (prefix_len is_white text) text

abbrev pub without_final_white : List ℕ → List ℕ
without_final_white text = take (length text - suffix_len is_white text) text

-- what is left of a prefix without the white at both ends
abbrev pub marks_of : List ℕ → List ℕ
marks_of prefix = without_final_white (behind_white prefix)

-- the marks of a prefix, and the columns of the white before and behind them
pub record DepthText : Type 0 where
  pub marks : List ℕ
  pub lead : ℕ
  pub behind : ℕ

abbrev pub depth_view : Depth → DepthText
depth_view d = record { marks = string_bytes d.marks; lead = d.lead; behind = d.behind }

abbrev pub depth_of : List ℕ → DepthText
depth_of prefix = record {
  marks = marks_of prefix;
  lead = text_columns (leading_white prefix);
  behind = text_columns prefix - text_columns (without_final_white prefix);
}

-- so many columns of white more than before: after its marks, which are the same, or where there are no
-- marks, in front
abbrev pub is_deeper : ℕ → DepthText → DepthText → Bool
is_deeper by before own =
    if has_bytes own.marks
    then bytes_eq own.marks before.marks && own.lead == before.lead
    && nat_le by (own.behind - before.behind)
    else nat_le by (own.lead - before.lead)
