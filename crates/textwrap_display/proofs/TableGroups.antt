-- The groups of a table's texts, the cells of each, and the rows of these, even, each line once.
use Rattle.std.proofs.{Common.replicate, Math.ListN.get_or-append}
use Rattle.std.proofs.Math.{Nat.add-div_right, Nat.div-le_self, Seq.get_or-append_right}
use Rattle.std.proofs.lemmas.List.{drop_min, get_or-replicate, length-replicate, nil_from_length, take_min}
use Rattle.std.proofs.lemmas.Slice.Zip.{AllZip-long, get_or-zip, length-zip}
use Rattle.std.specs.{Fork.slice_chunk, Slice.Iter.chunk_count}
use Rattle.textwrap.proofs.Text.Tables.{lines-kept}
use Rattle.textwrap_display.proofs.Common.{AllZip, IsWholeText, map-map, nil-whole, suc-mul}
use Rattle.textwrap_display.proofs.{Common.text_width-append, Common.text_width-nil, Widths.aligned-before}
use Rattle.textwrap_display.specs.Laws.{KeepToColumns, ShowsEachLineOnce, cell_shown, row_of, row_width}
use Rattle.textwrap_display.specs.Tables.{AreCells, AreTableRows, ColumnParts, HasColumnParts, HaveParts}
use Rattle.textwrap_display.specs.Tables.{IsTableBy, IsTableOf, OptionsMake, PartsMake, RowGaps, Shape}
use Rattle.textwrap_display.specs.Tables.{cell_line, group_rows, groups_of, height, rows_of_cells, shape_of}
use Rattle.textwrap_display.specs.Tables.{shape_of_parts, shown_cell, shown_cells, table_row, texts_in}
use Rattle.textwrap_display.specs.declared.tables.Column.{Column}
use Rattle.textwrap_layout.proofs.{Common.Line, Paragraph.Pieces.divides-under}
use Rattle.textwrap_layout.specs.Options.{settings_view}
use Rattle.textwrap_layout.specs.{Paragraph.DividesUnder, Text.AreTextLines}
use Rattle.textwrap_layout.specs.declared.options.Options.{Options}
use Rattle.textwrap_text.proofs.Common.{All, All-cons, All-head, All-map, All-nil, All-tail, Bor, List}
use Rattle.textwrap_text.proofs.Common.{[], ap, append_assoc, arith, cases_lt, drop, drop-drop, drop_at}
use Rattle.textwrap_text.proofs.Common.{fold, get_or, get_or-map, get_or_past, inl, inr, join_with}
use Rattle.textwrap_text.proofs.Common.{length, length-append, length-map, map, map-append, max, min}
use Rattle.textwrap_text.proofs.Common.{range_with_len, refl, rules, subst, suc, sum_by, sum_by-cons, sym}
use Rattle.textwrap_text.proofs.Common.{take_at, zero, zip, ℕ, ◌*◌, ◌++◌, ◌+◌, ◌-◌, ◌/◌, ◌<◌, ◌∙◌, ◌∷◌, ◌≡◌, ◌≤◌}
use Rattle.textwrap_text.specs.Units.{text_width}

-- ---- the cells of a row: their lines, and what the columns show of them

-- an empty cell after the others is as none
padded-at : (cells : List (List (List ℕ))) (count at : ℕ)
    → get_or (cells ++ replicate count []) at [] ≡ get_or cells at []
padded-at cells count at =
    grind (arith, get_or-append, get_or-append_right, get_or-replicate, get_or_past, length-replicate)

module _ (columns : List Shape) (cells : List (List (List ℕ))) where
  -- the cells, with an empty one for each column after them
  abbrev padded : List (List (List ℕ))
  padded = cells ++ replicate (length columns) []

  pub length-padded : length columns ≤ length padded
  length-padded = search (rules, arith, length-append, length-replicate)

  length-zipped : length (zip columns padded) ≡ length columns
  length-zipped = omega (arith, length-zip columns padded, length-padded)

  pub length-shown : (r : ℕ) → length (shown_cells columns cells r) ≡ length columns
  length-shown r = length-map (zip columns padded) (λ p. shown_cell p.0 p.1 r) ∙ length-zipped

  pub shown-at : (r at : ℕ) (shape : Shape) → at < length columns → shape ≡ get_or columns at shape
      → get_or (shown_cells columns cells r) at [] ≡ shown_cell shape (get_or cells at []) r
  shown-at r at shape within is =
      get_or-map (λ p. shown_cell p.0 p.1 r) (zip columns padded) at (shape, []) []
      (omega (arith, within, length-zipped))
      ∙ ap (λ p. shown_cell p.0 p.1 r) (get_or-zip columns padded at (shape, []) within
      (omega (arith, within, length-padded)) ∙ cc (is, padded-at cells (length columns) at))

-- ---- how many groups there are

count-some : (total count : ℕ) → 0 < count → 0 < total → chunk_count total count ≡ (total - 1) / count + 1
count-some total count some more = grind (arith, add-div_right, div-le_self)

count-less : (total count : ℕ) → 0 < count → 0 < total
    → chunk_count total count ≡ suc (chunk_count (total - count) count)
count-less total count some more = grind (arith, count-some)

-- ---- the first group, and the others

chunks-more : {X : Type 0} (texts : List X) (count at more : ℕ)
    → map (slice_chunk texts count) (range_with_len (at + 1) more)
    ≡ map (slice_chunk (drop count texts) count) (range_with_len at more)
chunks-more texts count at zero = refl
chunks-more texts count at (suc more) = grind (arith, drop-drop, chunks-more texts count (at + 1) more)

module _ {X : Type 0} (count : ℕ) (items front rest : List X) where
  -- the first of the groups, and the items after it
  pub record IsFirstGroup : Type 0 where
    pub some : 0 < count
    pub whole : items ≡ front ++ rest
    pub more : 0 < length items
    pub size : length front ≡ min count (length items)

  pub groups-more : IsFirstGroup → groups_of count items ≡ front ∷ groups_of count rest
  groups-more h = grind (arith, take_min, take_at, drop_min, drop_at, length-append, count-less, chunks-more)

-- what a function makes of a chunk of items is the first group of what it makes of all
pub first-group : {X Y : Type 0} (f : X → Y) (items front rest : List X) {size count : ℕ} → 0 < size
    → size ≡ count → (items ≡ front ++ rest) × (length front ≡ min size (length items))
    × (0 < length items) → IsFirstGroup count (map f items) (map f front) (map f rest)
first-group f items front rest some is chunk = search (rules, arith, map-append, length-map)

-- the column and the text of one cell
pub cell-at : {X : Type 0} (columns : List X) (texts : List (Bor (List ℕ))) (n : ℕ) (column : X)
    (text : Bor (List ℕ)) → n < length columns → n < length texts → column ≡ get_or columns n column
    → text ≡ get_or texts n text → (n < length (zip columns (texts_in texts)))
    × ((column, text.now) ≡ get_or (zip columns (texts_in texts)) n (column, text.now))
cell-at columns texts n column text first second column_is text_is =
    grind (arith, length-map, length-zip, get_or-zip, get_or-map)

module _ {X : Type 0} (Makes : X → List ℕ → List Line → Type 0) where
  module _ (shape : X → Shape) (columns : List X) (gaps : RowGaps) where
    pub table-none : (texts : List (List ℕ)) → length texts ≡ 0 → IsTableBy Makes shape columns gaps texts []
    table-none texts none = rw (nil_from_length texts none) (search (rules, arith))

    -- the rows of the first group, and those of the others
    pub table-more : {texts front rest : List (List ℕ)} (cells : List (List (List ℕ)))
        (others : List (List ℕ)) → IsFirstGroup (length columns) texts front rest
        → AreCells Makes columns front cells → IsTableBy Makes shape columns gaps rest others
        → IsTableBy Makes shape columns gaps texts (group_rows gaps (map shape columns) cells ++ others)
    table-more cells others first are (groups, all, given) =
        (cells ∷ groups, rw (groups-more _ _ _ _ first) (are, all), rw given refl)

-- what holds of items place by place, of which more holds
pub AllZip-weaker : {A B : Type 0} (R S : A → B → Type 0) → ((x : A) (y : B) → R x y → S x y)
    → (xs : List A) (ys : List B) → AllZip R xs ys → AllZip S xs ys
AllZip-weaker R S more (x ∷ xs) (y ∷ ys) (one, all) = (more x y one, AllZip-weaker R S more xs ys all)
AllZip-weaker R S more _ _ all = all

-- ---- columns of any kind, and others that make the same lines in the same shape

module _ {X Y : Type 0} (Makes : X → List ℕ → List Line → Type 0)
    (Others : Y → List ℕ → List Line → Type 0) (shape : X → Shape) (other_shape : Y → Shape) where
  pub record MakesThose (x : X) (y : Y) : Type 0 where
    pub makes : (text : List ℕ) (lines : List Line) → Makes x text lines → Others y text lines
    pub shape_is : shape x ≡ other_shape y

  abbrev pub MakeThose : List X → List Y → Type 0
  MakeThose = AllZip MakesThose

  shapes-as : (columns : List X) (others : List Y) → MakeThose columns others
      → map shape columns ≡ map other_shape others
  shapes-as [] [] make = refl
  shapes-as (x ∷ columns) (y ∷ others) (first, make) = cc (first.shape_is, shapes-as columns others make)
  shapes-as _ _ make = absurd make

  cells-as : (columns : List X) (others : List Y) → MakeThose columns others
      → (texts : List (List ℕ)) (cells : List (List (List ℕ)))
      → AreCells Makes columns texts cells → AreCells Others others texts cells
  cells-as [] [] make texts cells are = are
  cells-as (x ∷ columns) (y ∷ others) (first, make) (text ∷ texts) (cell ∷ cells) are =
      search (rules, arith, first.makes, cells-as columns others make texts cells)
  cells-as (x ∷ columns) (y ∷ others) make texts cells are = are
  cells-as _ _ make texts cells are = absurd make

  pub table-map : (columns : List X) (others : List Y) → MakeThose columns others
      → (gaps : RowGaps) (texts rows : List (List ℕ)) → IsTableBy Makes shape columns gaps texts rows
      → IsTableBy Others other_shape others gaps texts rows
  table-map columns others make gaps texts rows (groups, are, given) = (
    groups,
    AllZip-weaker (AreCells Makes columns) (AreCells Others others) (cells-as columns others make) _ _
        (rw (← AllZip-long _ columns others make) at are),
    rw (← shapes-as columns others make) given,
  )

-- ---- built-in parts

module _ {E C : Type 0} {e : _} {c : _} where
  part-makes : (column : Column (Options E C e c)) (p : ColumnParts) → HasColumnParts column p
      → MakesThose OptionsMake PartsMake shape_of shape_of_parts column p
  part-makes column p has = record {
    makes = λ text lines are. rw (divides-under column.parts (settings_view column.parts) p.splitter
        p.algorithm has.parts_are p.settings) at
        (subst (λ s. AreTextLines s (DividesUnder column.parts s) text lines) has.settings_are are);
    shape_is = let width = ap (λ s. s.width) has.settings_are in cc (has.alignment_is);
  }

  pub table-as : (columns : List (Column (Options E C e c))) (parts : List ColumnParts)
      → HaveParts columns parts → (gaps : RowGaps) (texts rows : List (List ℕ))
      → AreTableRows columns gaps texts rows → IsTableOf parts gaps texts rows
  table-as columns parts have = table-map OptionsMake PartsMake shape_of shape_of_parts columns parts
      (AllZip-weaker HasColumnParts _ part-makes columns parts have)

-- ---- the rows of cells that have their lines, group by group

module _ (gaps : RowGaps) (columns : List Shape) where
  pub cells-rows-none : (cells : List (List (List ℕ))) → length cells ≡ 0
      → rows_of_cells gaps columns cells ≡ []
  cells-rows-none cells none = search (rules, arith, nil_from_length cells none)

  -- the rows of the first group, and those of the others
  pub cells-rows-more : (cells front rest : List (List (List ℕ)))
      → IsFirstGroup (length columns) cells front rest → rows_of_cells gaps columns cells
      ≡ group_rows gaps columns front ++ rows_of_cells gaps columns rest
  cells-rows-more cells front rest first = search (rules, arith, groups-more)

-- ---- the rows of a table show each line once

abbrev higher : ℕ → List (List ℕ) → ℕ
higher most lines = max most (length lines)

-- no cell is higher
highest : (most : ℕ) (cells : List (List (List ℕ)))
    → (most ≤ fold higher most cells) × All (λ lines. length lines ≤ fold higher most cells) cells
highest most [] = (omega arith, All-nil (λ lines. length lines ≤ most))
highest most (lines ∷ cells) = search (rules, arith, fold, All-cons, highest (higher most lines) cells)

-- a cell shows its lines, and below them nothing
lines-shown : (lines : List (List ℕ)) (rows : ℕ) → length lines ≤ rows
    → map (cell_line lines) (range_with_len 0 rows) ≡ lines ++ replicate (rows - length lines) []
lines-shown lines rows high = grind (arith, lines-kept lines (rows - length lines))

-- no cell is higher than its row, and none at all is no higher
cell-high : (cells : List (List (List ℕ))) (at : ℕ) → length (get_or cells at []) ≤ height cells
cell-high cells at = search (rules, arith, cases_lt, highest 0 cells, get_or_past)

-- ---- the rows of a group

module _ (gaps : RowGaps) (columns : List Shape) (cells : List (List (List ℕ))) where
  abbrev places : List ℕ
  places = range_with_len 0 (height cells)

  abbrev texts : List (List (List ℕ))
  texts = map (shown_cells columns cells) places

  column-shown : (at : ℕ) (column : Shape) → at < length columns → column ≡ get_or columns at column
      → map (λ row. get_or row at []) texts ≡ cell_shown column (height cells) (get_or cells at [])
  column-shown at column within is =
      let lines = get_or cells at [] in
      let shows : map (λ r. get_or (shown_cells columns cells r) at []) places
      ≡ map (shown_cell column lines) places =
      λ i. map (λ r. shown-at columns cells r at column within is i) places in
      grind (arith, map-map, lines-shown lines (height cells) (cell-high cells at), shows)

  pub each-line-shown : ShowsEachLineOnce gaps columns cells (group_rows gaps columns cells)
  each-line-shown = record {
    texts = texts;
    rows_are = sym (map-map (row_of gaps) (shown_cells columns cells) places);
    each_column = All-map (λ row. length row ≡ length columns) (shown_cells columns cells) places
        (λ k d within. length-shown columns cells (get_or places k d));
    each_cell = column-shown;
  }

-- ---- the lines of a cell

abbrev Keeps : Shape → List ℕ → Type 0
Keeps column line = IsWholeText line × (text_width line ≤ column.width)

abbrev KeepTo : Shape × List (List ℕ) → Type 0
KeepTo p = All (Keeps p.0) p.1

keeps-at : (column : Shape) (lines : List (List ℕ)) → All (Keeps column) lines → (r : ℕ)
    → Keeps column (cell_line lines r)
keeps-at column lines keep r = elim (cases_lt r (length lines)) [
  | inl within ↦ keep r [] within
  | inr past ↦ rw (get_or_past lines r [] past) (nil-whole, omega (arith, text_width-nil))
]

shown-before : (column : Shape) (lines : List (List ℕ)) → All (Keeps column) lines → (r : ℕ) (text : List ℕ)
    → text_width (shown_cell column lines r ++ text) ≡ column.width + text_width text
shown-before column lines keep r text =
    let ((utf8, whole), fits) = keeps-at column lines keep r in
    aligned-before column.alignment column.width (cell_line lines r) text utf8 whole fits

-- ---- the columns of a row

-- empty cells after the others keep to any column
padded-keep : (columns : List Shape) (cells : List (List (List ℕ))) (count : ℕ) → KeepToColumns columns cells
    → All KeepTo (zip columns (cells ++ replicate count []))
padded-keep [] cells count keep = All-nil KeepTo
padded-keep (column ∷ columns) [] zero keep = All-nil KeepTo
padded-keep (column ∷ columns) [] (suc count) keep =
    All-cons KeepTo (column, []) (zip columns (replicate count [])) (All-nil (Keeps column))
    (padded-keep columns [] count (λ k d within.
    absurd (omega (arith, within, length-zip {B = List (List ℕ)} columns []))))
padded-keep (column ∷ columns) (lines ∷ cells) count keep =
    All-cons KeepTo (column, lines) _ (All-head KeepTo (column, lines) (zip columns cells) keep)
    (padded-keep columns cells count (All-tail KeepTo (column, lines) (zip columns cells) keep))

widths-zip : (columns : List Shape) (cells : List (List (List ℕ))) → length columns ≤ length cells
    → sum_by (λ p. p.0.width) (zip columns cells) ≡ sum_by (λ column. column.width) columns
widths-zip [] cells few = refl
widths-zip (column ∷ columns) [] few = absurd (omega arith)
widths-zip (column ∷ columns) (lines ∷ cells) few =
    search (rules, arith, sum_by-cons, zip, widths-zip columns cells (omega (arith, few)))

module _ (middle : List ℕ) (whole : IsWholeText middle) (r : ℕ) where
  abbrev joined : List (Shape × List (List ℕ)) → List ℕ
  joined ps = join_with middle (map (λ p. shown_cell p.0 p.1 r) ps)

  joined-before : (ps : List (Shape × List (List ℕ))) → All KeepTo ps → (text : List ℕ)
      → text_width (joined ps ++ text)
      ≡ sum_by (λ p. p.0.width) ps + (length ps - 1) * text_width middle + text_width text
  joined-before [] keep text = omega arith
  joined-before (p ∷ []) keep text = search (rules, arith, shown-before, All-head, sum_by-cons)
  joined-before (p ∷ q ∷ ps) keep text =
      let x = shown_cell p.0 p.1 r in
      let others = joined (q ∷ ps) in
      let one : suc (suc (length ps)) - 1 ≡ suc (length ps) = omega arith in
      let less : suc (length ps) - 1 ≡ length ps = omega arith in
      let here = shown-before p.0 p.1 (All-head KeepTo p (q ∷ ps) keep) r (middle ++ (others ++ text)) in
      let between = text_width-append middle (others ++ text) whole.0 whole.1 in
      let later = joined-before (q ∷ ps) (All-tail KeepTo p (q ∷ ps) keep) text in
      let sum = sum_by-cons (λ s. s.0.width) p (q ∷ ps) in
      rw (append_assoc (x ++ middle) others text, append_assoc x middle (others ++ text), one)
      (omega (arith, here, between, rw less at later, sum, suc-mul (length ps) (text_width middle)))

pub rows-even : (gaps : RowGaps) (columns : List Shape) (cells : List (List (List ℕ)))
    → IsWholeText gaps.left → IsWholeText gaps.middle → KeepToColumns columns cells
    → All (λ row. text_width row ≡ row_width gaps columns) (group_rows gaps columns cells)
rows-even gaps columns cells left middle keep =
    All-map (λ row. text_width row ≡ row_width gaps columns) (table_row gaps columns cells)
    (range_with_len 0 (height cells)) (λ k d within. even (get_or (range_with_len 0 (height cells)) k d))
  where
    even : (r : ℕ) → text_width (table_row gaps columns cells r) ≡ row_width gaps columns
    even r =
        let padded = cells ++ replicate (length columns) [] in
        let ps = zip columns padded in
        let count = length-zipped columns cells in
        let split = text_width-append gaps.left (joined gaps.middle middle r ps ++ gaps.right) left.0 left.1 in
        let keeps = padded-keep columns cells (length columns) keep in
        let joins = joined-before gaps.middle middle r ps keeps gaps.right in
        grind (arith, append_assoc, widths-zip columns padded (length-padded columns cells))
