-- What the columns of a table need by their texts.
use Rattle.std.specs.Prelude.{ℕ, ◌==◌, max, List, [], fold, map, slice_index_or}
use Rattle.std.specs.List.{flat_map, range_with_len, slice_split}
use Rattle.textwrap_display.specs.Tables.{groups_of}
use Rattle.textwrap_display.specs.declared.needs.Need.{Need}
use Rattle.textwrap_text.specs.Blanks.{is_blank}
use Rattle.textwrap_text.specs.LineEnding.{line_feed}
use Rattle.textwrap_text.specs.Units.{text_width}

-- the lines of a text, and their words
abbrev pub lines_in : List ℕ → List (List ℕ)
lines_in text = slice_split (λ b. b == line_feed) text

abbrev pub words_in : List ℕ → List (List ℕ)
words_in text = flat_map (slice_split is_blank) (lines_in text)

-- how wide the widest of some texts is
abbrev pub widest : List (List ℕ) → ℕ
widest texts = fold (λ most text. max most (text_width text)) 0 texts

-- the texts of the column at a place, one in each row; a row that is shorter has nothing there
abbrev pub column_texts : ℕ → List (List ℕ) → ℕ → List (List ℕ)
column_texts columns cells at = map (λ row. slice_index_or row at []) (groups_of columns cells)

abbrev pub need_of : List (List ℕ) → Need
need_of texts = record {
  least = widest (flat_map words_in texts);
  most = widest (flat_map lines_in texts);
}

abbrev pub needs_of : ℕ → List (List ℕ) → List Need
needs_of columns cells =
    map (λ at. need_of (column_texts columns cells at)) (range_with_len 0 columns)
