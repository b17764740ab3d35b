-- The help of a program, as a table.
use Rattle.std.specs.Prelude.{◌≡◌, ℕ, ◌+◌, ◌-◌, List, [], ◌∷◌, All, codes, map, min, sum}
use Rattle.std.specs.Prelude.{sum_by}
use Rattle.textwrap.specs.Options.{settings_at, default_algorithm}
use Rattle.textwrap.specs.WordSplitters.{AtHyphens}
use Rattle.textwrap_display.specs.Fitting.{fitting_widths, widest_line}
use Rattle.textwrap_display.specs.Laws.{KeepToColumns}
use Rattle.textwrap_display.specs.Needs.{column_texts, need_of}
use Rattle.textwrap_display.specs.Tables.{ColumnParts, IsTableOf, RowGaps, shape_of_parts}
use Rattle.textwrap_text.specs.Units.{text_width}
use Rattle.textwrap_display.specs.declared.needs.Need.{Need}
use Rattle.textwrap_display.specs.declared.alignment.Alignment.TheVariants.{Left}

-- a column of this width, by the defaults
abbrev pub left_column : ℕ → ColumnParts
left_column width = record {
  settings = settings_at width;
  splitter = AtHyphens;
  algorithm = default_algorithm;
  alignment = Left;
}

-- flags of this width, and texts of what they leave, behind two blanks each
abbrev pub help_columns : ℕ → ℕ → List ColumnParts
help_columns flag_width width =
    left_column flag_width ∷ left_column (width - (flag_width + 4)) ∷ []

abbrev pub help_gaps : RowGaps
help_gaps = record { left = codes "  "; middle = codes "  "; right = [] }

-- ---- where the widths are those of what stands in the columns

-- flags that stay whole, beside the texts
abbrev pub help_needs : List (List ℕ) → List Need
help_needs entries =
    let flags = (need_of (column_texts 2 entries 0)).most in
    record { least = flags; most = flags } ∷ need_of (column_texts 2 entries 1) ∷ []

-- what both columns take of the width together: no more than their lines
abbrev pub help_total : ℕ → List (List ℕ) → ℕ
help_total width entries = min (width - 4) (sum_by widest_line (help_needs entries))

abbrev pub help_widths : ℕ → List (List ℕ) → List ℕ
help_widths width entries = fitting_widths (help_total width entries) (help_needs entries)

abbrev pub fitted_columns : ℕ → List (List ℕ) → List ColumnParts
fitted_columns width entries = map left_column (help_widths width entries)

-- the widths add up, and the rows are those of a table of columns of these widths; each row takes what
-- both columns and the blanks before them take, if each line of a cell keeps to its column
pub record IsFittedHelp (width : ℕ) (entries rows : List (List ℕ)) : Type 0 where
  pub add_up : sum (help_widths width entries) ≡ help_total width entries
  pub table : IsTableOf (fitted_columns width entries) help_gaps entries rows
  pub even : All (KeepToColumns (map shape_of_parts (fitted_columns width entries))) table.0
      → All (λ row. text_width row ≡ help_total width entries + 4) rows
