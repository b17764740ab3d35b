-- The cells and rows of texts in columns: which lines they show, and that rows are even.
use Rattle.textwrap.proofs.Common.{length-replicate, cells_by_column, div_ceil_times, All-replicate}
use Rattle.textwrap.proofs.Common.{range_with_len, text_width-nil, settings_view, DividesUnder, All}
use Rattle.textwrap.proofs.Common.{KeepsMethods, append_assoc, column_cells, MayDivide}
use Rattle.textwrap.proofs.Common.{MaySeparate, inner_width, sum_by-cons, append-nil, cell_parts, ℕ}
use Rattle.textwrap.proofs.Common.{get_or-map, map-append, text_width, column_row, RowLayout, arith}
use Rattle.textwrap.proofs.Common.{join_with, row_layout, replicate, row_count, row_parts, All-head}
use Rattle.textwrap.proofs.Common.{All-tail, MaySplit, Settings, WordText, cases_lt, flat_map, Bool}
use Rattle.textwrap.proofs.Common.{Options, blanks, get_or, length, padded, sum_by, cells, rules}
use Rattle.textwrap.proofs.Common.{Line, List, cell, refl, zero, ◌++◌, inl, inr, map, min, suc, sym}
use Rattle.textwrap.proofs.Common.{◌*◌, ◌+◌, ◌-◌, ◌<◌, ◌∙◌, ◌∷◌, ◌≡◌, ◌≤◌, [], ap}
use Rattle.textwrap_text.proofs.Common.{flat_map-append, sum_by-append, get_or_past}
use Rattle.textwrap_text.proofs.{Units.Reading.printable-width, Lists.Elements.range-split}
use Rattle.textwrap_layout.proofs.Common.{IsDividedInto, AreTextLines, DividesBy}
use Rattle.std.proofs.{Math.Nat.mul-le-mul_right, lemmas.List.FromFn.fill_by_all}
use Rattle.std.proofs.lemmas.List.FromFn.{get_or-map-range_with_len, length-map-range_with_len}
use Rattle.textwrap_words.specs.declared.wrap_algorithms.WrapAlgorithm.{WrapAlgorithm}
use Rattle.textwrap_words.specs.declared.word_separators.WordSeparator.{WordSeparator}
use Rattle.textwrap_words.specs.declared.word_splitters.WordSplitter.{WordSplitter}

-- ---- the cells of a row

module _ (lines : List (List ℕ)) (rows columns r width : ℕ) where
  abbrev shown : List (List ℕ)
  shown = map (padded width) (cells lines rows columns r)

  -- what a column shows is the line at its place, and past the last line nothing
  pub shown-at : (c place : ℕ) → c < columns → place ≡ min (r + c * rows) (length lines)
      → get_or shown c [] ≡ padded width (get_or lines place [])
  shown-at c place within is =
      get_or-map (padded width) (cells lines rows columns r) c [] []
      (omega (arith, length-map-range_with_len (cell lines rows r) 0 columns))
      ∙ ap (padded width) (get_or-map-range_with_len (cell lines rows r) 0 columns c c [] within
      (omega arith) ∙ elim (cases_lt (r + c * rows) (length lines)) [
        | inl there ↦ ap (λ i. get_or lines i []) (omega arith)
        | inr past ↦ get_or_past lines (r + c * rows) [] past
            ∙ sym (get_or_past lines place [] (omega arith))
      ])

  -- past the last line all columns show the same
  pub shown-past : (c i : ℕ) → length lines ≤ r + c * rows → c ≤ i → i < columns
      → get_or shown i [] ≡ get_or shown c []
  shown-past c i past after within = search (rules, arith, mul-le-mul_right, shown-at)

-- ---- the cells of a table, one column after another

-- what stands at these places
abbrev pub lines_at : List (List ℕ) → ℕ → ℕ → List (List ℕ)
lines_at lines from count = map (λ i. get_or lines i []) (range_with_len from count)

module _ (lines : List (List ℕ)) where
  past-empty : (from count : ℕ) → length lines ≤ from → lines_at lines from count ≡ replicate count []
  past-empty from zero past = refl
  past-empty from (suc count) past = simp (get_or_past, past-empty (from + 1) count (omega arith))

  -- from the first place on they are the lines, and then empty ones
  pub lines-kept : (empty : ℕ)
      → lines_at lines 0 (length lines + empty) ≡ lines ++ replicate empty []
  lines-kept empty =
      let from : 0 + length lines ≡ length lines = omega arith in
      let past = past-empty (0 + length lines) empty (omega (arith, from)) in
      rw (range-split 0 (length lines) empty, map-append, past)
      (ap (λ l. l ++ replicate empty [])
      (sym (fill_by_all (λ i. get_or lines i []) lines (length lines) [] refl
      (λ k within. refl))))

  -- the places of one column follow one another
  column-at : (columns c : ℕ) → c < columns → (r count : ℕ)
      → map (λ k. get_or (cells lines (row_count lines columns) columns k) c [])
      (range_with_len r count)
      ≡ lines_at lines (c * row_count lines columns + r) count
  column-at columns c within r zero = refl
  column-at columns c within r (suc count) =
      search (rules, get_or-map-range_with_len, column-at columns c within (r + 1) count)

  -- and those of the columns do
  columns-at : (columns c count : ℕ) → c + count ≤ columns
      → flat_map (column_cells lines columns) (range_with_len c count)
      ≡ lines_at lines (c * row_count lines columns) (count * row_count lines columns)
  columns-at columns c zero within = search rules
  columns-at columns c (suc count) within =
      let rows = row_count lines columns in
      let start : c * rows + 0 ≡ c * rows = omega arith in
      let next : (c + 1) * rows ≡ c * rows + rows = omega arith in
      let all : rows + count * rows ≡ suc count * rows = omega arith in
      let first = column-at columns c (omega arith) 0 rows in
      let others = columns-at columns (c + 1) count (omega arith) in
      let parts = range-split (c * rows) rows (count * rows) in
      rw (first, start, others, next, ← all, parts, map-append)

pub columns_kept : (lines : List (List ℕ)) (columns : ℕ) → 1 ≤ columns
    → (empty : ℕ) × (cells_by_column lines columns ≡ lines ++ replicate empty [])
columns_kept lines columns some =
    let rows = row_count lines columns in
    let all = div_ceil_times (length lines) columns some in
    let empty = columns * rows - length lines in
    let room : length lines ≤ columns * rows = omega (arith, all.0) in
    let whole : length lines + empty ≡ columns * rows = omega (arith, room) in
    let start : 0 * rows ≡ 0 = omega arith in (
      empty,
      columns-at lines columns 0 columns (omega arith)
          ∙ ap (λ i. lines_at lines i (columns * rows)) start ∙ ap (lines_at lines 0) (sym whole)
          ∙ lines-kept lines empty,
    )

-- ---- the parts of a row

cell_parts-joined : (layout : RowLayout) (row : List (List ℕ))
    → flat_map (λ part. part) (cell_parts layout row)
    ≡ join_with layout.middle (map (padded layout.column_width) row)
cell_parts-joined layout [] = refl
cell_parts-joined layout (text ∷ []) = search (rules, append-nil)
cell_parts-joined layout (text ∷ next ∷ texts) =
    simp (append_assoc, cell_parts-joined layout (next ∷ texts))

pub row_parts-joined : (layout : RowLayout) (row : List (List ℕ))
    → flat_map (λ part. part) (row_parts layout row) ≡ column_row layout row
row_parts-joined layout row = simp (append_assoc, append-nil, flat_map-append, cell_parts-joined)

-- ---- their widths

pub blanks-width : (n : ℕ) → text_width (blanks n) ≡ n
blanks-width n = search (rules, arith, printable-width, All-replicate, length-replicate)

cell-fits : (width : ℕ) (lines : List (List ℕ)) → All (λ line. text_width line ≤ width) lines
    → (i : ℕ) → text_width (get_or lines i []) ≤ width
cell-fits width [] fits i = omega (arith, text_width-nil)
cell-fits width (line ∷ lines) fits zero = All-head (λ l. text_width l ≤ width) line lines fits
cell-fits width (line ∷ lines) fits (suc i) =
    cell-fits width lines (All-tail (λ l. text_width l ≤ width) line lines fits) i

module _ (layout : RowLayout) (lines : List (List ℕ)) (rows r : ℕ)
    (fits : (i : ℕ) → text_width (get_or lines i []) ≤ layout.column_width) where
  cell_parts-width : (c others : ℕ)
      → sum_by text_width (cell_parts layout (map (cell lines rows r)
      (range_with_len c (suc others))))
      ≡ suc others * layout.column_width + others * text_width layout.middle
  cell_parts-width c zero = search (rules, blanks-width)
  cell_parts-width c (suc others) =
      search (rules, blanks-width, sum_by-cons, cell_parts-width (c + 1) others)

pub rows_even : (width columns : ℕ) (left middle right : List ℕ) (lines : List (List ℕ)) (r : ℕ)
    → let inner : ℕ = inner_width width columns left middle right in
    let layout : RowLayout = row_layout width columns left middle right in
    let row : List (List ℕ) = cells lines (row_count lines columns) columns r in
    let gaps : ℕ = text_width left + text_width right + (columns - 1) * text_width middle in
    1 ≤ columns → columns * layout.column_width ≤ inner
    → All (λ line. text_width line ≤ layout.column_width) lines
    → (sum_by text_width (row_parts layout row) ≡ gaps + inner) × (gaps + inner ≡ width)
rows_even width zero left middle right lines r some room fits = absurd (omega arith)
rows_even width (suc others) left middle right lines r some room fits =
    let layout = row_layout width (suc others) left middle right in
    let rows = row_count lines (suc others) in
    let row = cells lines rows (suc others) r in
    let spare = blanks layout.spare_width in
    search (
      rules,
      arith,
      sum_by-cons text_width left (cell_parts layout row ++ (spare ∷ right ∷ [])),
      sum_by-append text_width (cell_parts layout row) (spare ∷ right ∷ []),
      sum_by-cons text_width spare (right ∷ []),
      sum_by-cons text_width right [],
      blanks-width layout.spare_width,
      cell_parts-width layout lines rows r (cell-fits layout.column_width lines fits) 0 others,
      cell-fits layout.column_width lines fits,
    )

-- ---- the lines at the width of a column

module _ {E C : Type 0} {e : _} {c : _} where
  abbrev Divides : WordSeparator C c → WordSplitter C c → WrapAlgorithm E e → Settings
      → Bool → List ℕ → List (List WordText) → Type 0
  Divides separator splitter algorithm settings =
      IsDividedInto settings (MaySeparate separator) (MaySplit splitter)
      (MayDivide algorithm (λ w. w))

  pub AreTextLines-methods : (old new : Options E C e c)
      (settings : Settings) (text : List ℕ) (lines : List Line) → settings_view new ≡ settings
      → KeepsMethods old new → AreTextLines (settings_view new) (DividesBy new) text lines
      → AreTextLines settings (DividesUnder old settings) text lines
  AreTextLines-methods old new settings text lines same keeps are = search rules
