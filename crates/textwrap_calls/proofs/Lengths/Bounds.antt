-- How many lines and rows a text has at most, and how long they are together, by the options of C.
use Rattle.std.proofs.{Common.◌/◌, Math.Nat.{lt_of_mul-lt-mul_right, lt-mul-div-succ, mul-div-le}}
use Rattle.std.proofs.lemmas.List.{Concat.length-flat_map, Folds.sum_by-replicate}
use Rattle.std.proofs.lemmas.{List.FromFn.{length-range_with_len, fill_by_all}, Nat.mul-le}
use Rattle.std.specs.Int.{div_ceil}
use Rattle.textwrap.proofs.Common.{div_ceil_times, length-replicate, and_parts, max, range_with_len}
use Rattle.textwrap.proofs.Common.{indent_of, Bool, length-append, ending_bytes, arith, All-head}
use Rattle.textwrap.proofs.Common.{paragraphs_of, All-weaker, length-map, line_bytes}
use Rattle.textwrap.proofs.Common.{LineParts, join_with, line_from, nat_tests, All, All-tail}
use Rattle.textwrap.proofs.Common.{cases_lt, flat_map, IsUtf8, get_or, length, false, subst, inl}
use Rattle.textwrap.proofs.Common.{List, cond, refl, true, ◌==◌, inr, map, ℕ, sym, ◌*◌, ◌+◌, ◌-◌}
use Rattle.textwrap.proofs.Common.{◌<◌, ◌∙◌, ◌∷◌, ◌≡◌, ◌≤◌, [], ap, RowLayout, column_row, padded}
use Rattle.textwrap.proofs.Common.{cells, cell, replicate, flat_map-map, at_column_width}
use Rattle.textwrap.proofs.Common.{inner_width, row_layout, row_count, IsInColumns, table_rows}
use Rattle.textwrap.proofs.{Common.{IsFilled, Settings, flat}, Text.Tables.columns_kept}
use Rattle.textwrap.specs.Columns.{column_width}
use Rattle.textwrap_calls.proofs.Common.{TextwrapOptions, flat_map-append, options_algorithm}
use Rattle.textwrap_calls.proofs.Common.{separator_of, options_settings, built_text, eqb-true}
use Rattle.textwrap_calls.proofs.{Common.{Divides, ◌&&◌}, Lengths.Lines.{AddsAtMost, indent-length}}
use Rattle.textwrap_calls.proofs.Lengths.{Lines.{later-length, line-length}, Sums.texts-joined}
use Rattle.textwrap_calls.proofs.{Lengths.Sums.{by-columns, flat-each}, PlaceLemmas.divided-tile}
use Rattle.textwrap_calls.proofs.ReadOptions.{options-cuts, options-inside, splitter-named}
use Rattle.textwrap_calls.specs.Bounds.{hyphens_of, columns_room_bound, fill_bound, rows_bound}
use Rattle.textwrap_calls.specs.{Columns.AreRows, Options.options_points}
use Rattle.textwrap_calls.specs.declared.columns.TextwrapGaps.{TextwrapGaps}
use Rattle.textwrap_display.proofs.Common.{Built}
use Rattle.textwrap_layout.proofs.Common.{AreIndented, AreTextLines, built_bytes, Slice, Line}
use Rattle.textwrap_lines.proofs.{Common.paragraphs_of-utf8, Paragraph.KeepsTo.HasNoHyphen}
use Rattle.textwrap_lines.proofs.Text.Groups.{groups-tile}
use Rattle.textwrap_plain.proofs.Balance.Counts.{slices, text-size}
use Rattle.textwrap_plain.proofs.Words.{IsWrapped-at, hyphens-at}
use Rattle.textwrap_plain.specs.{CutSides.words_by-cut, Hyphenated.AddsHyphenAtMost}
use Rattle.textwrap_plain.specs.Options.{DividesFrom, is_dictionary, points_by, words_by}
use Rattle.textwrap_plain.specs.declared.options.PlainSplitter.{PlainSplitter}
use Rattle.textwrap_plain.specs.declared.options.PlainSplitter.TheVariants.{BuiltIn, Dictionary}
use Rattle.textwrap_plain.specs.declared.options.PlainSplitter.TheVariants.{OutsideSequences}

-- ---- lines of their own

built-le : (lines : List Line) → length (built_text lines) ≤ length (flat (map line_bytes lines))
built-le [] = omega arith
built-le (Slice bytes ∷ lines) = omega (arith, built-le lines, length-append {A = ℕ})
built-le (Built bytes ∷ lines) = omega (arith, built-le lines, length-append {A = ℕ})

slice-line : (p : LineParts) → length p.indent ≡ 0 → AddsAtMost 0 p
    → length (built_bytes (line_from p)) ≡ 0
slice-line p short none = grind (arith, length-append)

-- without indents and hyphens there are none
built-none : (settings : Settings) (is_later : Bool) (parts : List LineParts)
    → length (indent_of settings is_later) ≡ 0 → length settings.subsequent_indent ≡ 0
    → AreIndented settings is_later parts → All (AddsAtMost 0) parts
    → length (built_text (map line_from parts)) ≡ 0
built-none settings is_later [] here later are none = refl
built-none settings is_later (p ∷ parts) here later are none =
    omega (
      arith,
      slice-line p (omega (arith, here, ap length are.0, indent-length settings is_later p.pieces))
          (All-head (AddsAtMost 0) p parts none),
      built-none settings true parts later later are.1 (All-tail (AddsAtMost 0) p parts none),
      length-append {A = ℕ},
    )

-- ---- all lines

-- the initial indent, and each byte on a line of its own after the later indent, each line with so much
-- behind it
abbrev bytes_bound : Settings → ℕ → ℕ → ℕ
bytes_bound settings most len =
    length settings.initial_indent + most + len * (1 + length settings.subsequent_indent + most)

-- how many they are, how long they are, and how long those are that are no slices
pub record AreBounded (settings : Settings) (most len : ℕ) (lines : List Line) : Type 0 where
  pub count : length lines ≤ len + 1
  pub bytes : length (flat (map line_bytes lines)) ≤ bytes_bound settings most len
  pub built : length (built_text lines) ≤ cond ((length settings.initial_indent == 0)
      && ((length settings.subsequent_indent == 0) && (most == 0))) 0 (bytes_bound settings most len)

module _ (settings : Settings) (most len : ℕ) where
  bytes-bounded : (parts : List LineParts) → AreIndented settings false parts
      → All (AddsAtMost most) parts → length parts ≤ len + 1 → length (slices parts) ≤ len
      → length (flat (map line_bytes (map line_from parts))) ≤ bytes_bound settings most len
  bytes-bounded [] indented adds count within = omega arith
  bytes-bounded (p ∷ parts) indented adds count within =
      let each = length settings.subsequent_indent + most in
      omega (
        arith,
        line-length settings false most p (All-head (AddsAtMost most) p parts adds) indented.0,
        later-length settings most each (omega arith) parts indented.1
            (All-tail (AddsAtMost most) p parts adds),
        mul-le (length parts) each len each (omega (arith, count)) (omega arith),
        length-append {A = ℕ},
      )

  parts-bounded : (parts : List LineParts) → AreIndented settings false parts
      → All (AddsAtMost most) parts → length parts ≤ len + 1 → length (slices parts) ≤ len
      → AreBounded settings most len (map line_from parts)
  parts-bounded parts indented adds count within =
      let bytes = bytes-bounded parts indented adds count within in
      let lines = map line_from parts in
      let i = length settings.initial_indent in
      let k = length settings.subsequent_indent in
      record {
        count = omega (arith, count, length-map parts line_from);
        bytes = bytes;
        built = (elim ((i == 0) && ((k == 0) && (most == 0)))
            as (λ b. (i == 0) && ((k == 0) && (most == 0)) ≡ b
            → length (built_text lines) ≤ cond b 0 (bytes_bound settings most len)) [
              | true ↦ λ unindented.
                  let both = and_parts (i == 0) ((k == 0) && (most == 0)) unindented in
                  let rest = and_parts (k == 0) (most == 0) both.1 in
                  let none = subst (λ n. All (AddsAtMost n) parts) (eqb-true most 0 rest.1) adds in
                  omega (
                    arith,
                    built-none settings false parts (eqb-true i 0 both.0) (eqb-true k 0 rest.0)
                        indented none,
                  )
              | false ↦ λ some. omega (arith, built-le lines, bytes)
            ]) refl;
      }

-- ---- behind a line stands a hyphen at most, and only by a dictionary

hyphen-short : (p : LineParts) → AddsHyphenAtMost p → AddsAtMost 1 p
hyphen-short p (inl is) = omega (arith, ap length is)
hyphen-short p (inr is) = omega (arith, ap length is)

none-short : (most : ℕ) (p : LineParts) → HasNoHyphen p → AddsAtMost most p
none-short most p is = omega (arith, ap length is)

-- lines that are the text's, where words are split at such points, and what is added to them
record AreAdded (o : TextwrapOptions) (settings : Settings) (text : List ℕ) (lines : List Line)
    (points : List ℕ → List ℕ) : Type 0 where
  are : AreTextLines settings
      (DividesFrom (words_by (separator_of o)) points (options_algorithm o) settings) text lines
  indents : AreIndented settings false (flat are.groups)
  adds : All (AddsAtMost (hyphens_of o)) (flat are.groups)

added : (o : TextwrapOptions) (settings : Settings) (text : List ℕ) (lines : List Line)
    → IsUtf8 text → AreTextLines settings (Divides o settings) text lines
    → AreAdded o settings text lines (options_points o)
added o settings text lines utf8 are =
    let (splitter, is) = splitter-named o in
    subst (AreAdded o settings text lines) (sym is.points) (by splitter is.hyphens
    (subst (λ points. AreTextLines settings
    (DividesFrom (words_by (separator_of o)) points (options_algorithm o) settings) text lines)
    is.points are))
  where
    by : (splitter : PlainSplitter) → (is_dictionary splitter ≡ true → 1 ≤ hyphens_of o)
        → AreTextLines settings (DividesFrom (words_by (separator_of o)) (points_by splitter)
        (options_algorithm o) settings) text lines
        → AreAdded o settings text lines (points_by splitter)
    by (BuiltIn splitter) hyphens are =
        let all = IsWrapped-at (separator_of o) utf8 (BuiltIn splitter) are in
        record {
          are = all.are;
          indents = all.adds.indents;
          adds = All-weaker HasNoHyphen (AddsAtMost (hyphens_of o)) (none-short (hyphens_of o))
              (flat all.are.groups) (all.adds.no_hyphen (λ e. cc));
        }
    by OutsideSequences hyphens are =
        let all = IsWrapped-at (separator_of o) utf8 OutsideSequences are in
        record {
          are = all.are;
          indents = all.adds.indents;
          adds = All-weaker HasNoHyphen (AddsAtMost (hyphens_of o)) (none-short (hyphens_of o))
              (flat all.are.groups) (all.adds.no_hyphen (λ e. cc));
        }
    by (Dictionary table) hyphens are =
        let all = IsWrapped-at (separator_of o) utf8 (Dictionary table) are in
        record {
          are = all.are;
          indents = all.adds.indents;
          adds = All-weaker AddsHyphenAtMost (AddsAtMost (hyphens_of o))
              (λ p is_one. omega (arith, hyphen-short p is_one, hyphens refl)) (flat all.are.groups)
              (hyphens-at (separator_of o) (Dictionary table) (options_algorithm o) utf8 all.are);
        }

pub lines-bounded : (o : TextwrapOptions) (settings : Settings) (len : ℕ) (text : List ℕ)
    (lines : List Line) → IsUtf8 text → length text ≡ len
    → AreTextLines settings (Divides o settings) text lines
    → AreBounded settings (hyphens_of o) len lines
lines-bounded o settings len text lines utf8 len_is are =
    let all = added o settings text lines utf8 are in
    let groups = all.are.groups in
    let tile = groups-tile settings (Divides o settings) (divided-tile o settings) false
    (paragraphs_of settings.line_ending text) groups
    (paragraphs_of-utf8 settings.line_ending text utf8) all.are.defined in
    let size = text-size (words_by (separator_of o)) (words_by-cut (separator_of o)) (options_points o)
    (options-cuts o) (options-inside o) (options_algorithm o) settings text groups utf8 all.are.defined
    tile in
    subst (AreBounded settings (hyphens_of o) len) (sym all.are.given)
    (parts-bounded settings (hyphens_of o) len (flat groups) all.indents all.adds
    (omega (arith, size.0, len_is)) (omega (arith, size.1, len_is)))

-- ---- how long a filled text is at most

pub filled-bounded : (o : TextwrapOptions) (len : ℕ) (text filled : List ℕ) → IsUtf8 text
    → length text ≡ len → IsFilled (options_settings o) (Divides o (options_settings o)) text filled
    → length filled ≤ fill_bound o len
filled-bounded o len text filled utf8 len_is (lines, are, is) =
    let bounded = lines-bounded o settings len text lines utf8 len_is are in
    let count : length (map line_bytes lines) ≤ len + 1 =
    omega (arith, bounded.count, length-map lines line_bytes) in
    rw is (by (map line_bytes lines) count bounded.bytes)
  where
    settings : Settings
    settings = options_settings o

    ending : List ℕ
    ending = ending_bytes settings.line_ending

    by : (texts : List (List ℕ)) → length texts ≤ len + 1 → length (flat texts)
        ≤ bytes_bound settings (hyphens_of o) len
        → length (join_with ending texts) ≤ fill_bound o len
    by [] count bytes = omega arith
    by (x ∷ xs) count bytes = omega (
      arith,
      texts-joined ending x xs,
      mul-le (length xs) (length ending) len (length ending) (omega (arith, count)) (omega arith),
    )

-- ---- how long the rows of a text in columns are together

-- ---- the cells of all rows are the lines

module _ (lines : List (List ℕ)) (columns : ℕ) (some : 1 ≤ columns) where
  abbrev rows : List ℕ
  rows = range_with_len 0 (row_count lines columns)

  abbrev row : ℕ → List (List ℕ)
  row r = cells lines (row_count lines columns) columns r

  row-length : (r : ℕ) → length (row r) ≡ columns
  row-length r =
      length-map (range_with_len 0 columns) (cell lines (row_count lines columns) r)
      ∙ length-range_with_len 0 columns

  row-cells : (r : ℕ)
      → flat (row r) ≡ flat_map (λ c. get_or (row r) c []) (range_with_len 0 columns)
  row-cells r =
      ap flat (fill_by_all (λ c. get_or (row r) c []) (row r) columns [] (row-length r) (λ k lt. refl))
      ∙ flat_map-map (λ text. text) (λ c. get_or (row r) c []) (range_with_len 0 columns)

  cells-length : length (flat_map (λ r. flat (row r)) rows) ≤ length (flat lines)
  cells-length =
      let (empty, kept) = columns_kept lines columns some in
      let all = range_with_len 0 columns in
      omega (
        arith,
        flat-each (λ r. flat (row r)) (λ r. flat_map (λ c. get_or (row r) c []) all) 0
            (λ r. omega (arith, ap length (row-cells r))) rows,
        by-columns (λ r c. get_or (row r) c []) rows all,
        ap (λ ls. length (flat ls)) kept,
        ap length (flat_map-append (λ text. text) lines (replicate empty [])),
        length-append {A = ℕ},
        length-flat_map {A = ℕ} (λ (text : List ℕ). text) (replicate empty []),
        sum_by-replicate (λ (text : List ℕ). length text) empty [],
      )

-- ---- how long a row is

padded-length : (width : ℕ) (text : List ℕ) → length (padded width text) ≤ width + length text
padded-length width text =
    grind (arith, length-append, length-replicate)

-- the gaps of a row, the columns and what is spare
abbrev pub row_room : RowLayout → ℕ
row_room layout =
    length layout.left + length layout.right + (layout.columns - 1) * length layout.middle
    + (layout.columns * layout.column_width + layout.spare_width)

row-within : (layout : RowLayout) (row : List (List ℕ)) → 1 ≤ layout.columns
    → length row ≡ layout.columns
    → length (column_row layout row) ≤ row_room layout + length (flat row)
row-within layout [] some is = absurd (omega (arith, some, is))
row-within layout (x ∷ xs) some is =
    let fill = padded layout.column_width in
    let one : layout.columns - 1 ≡ length (map fill xs) = omega (arith, is, length-map xs fill) in
    omega (
      arith,
      texts-joined layout.middle (fill x) (map fill xs),
      ap length (flat_map-map (λ text. text) fill (x ∷ xs)),
      flat-each fill (λ text. text) layout.column_width (padded-length layout.column_width) (x ∷ xs),
      ap (λ n. n * length layout.middle) one,
      ap (λ n. n * layout.column_width) is,
      length-append {A = ℕ},
      length-replicate {A = ℕ} layout.spare_width 32,
    )

-- all rows, of such lines
rows-length : (layout : RowLayout) (lines : List (List ℕ)) → 1 ≤ layout.columns
    → length (flat (table_rows layout lines))
    ≤ row_count lines layout.columns * row_room layout + length (flat lines)
rows-length layout lines some =
    let count = row_count lines layout.columns in
    let all = range_with_len 0 count in
    let row = cells lines count layout.columns in
    omega (
      arith,
      ap length (flat_map-map (λ text. text) (λ r. column_row layout (row r)) all),
      flat-each (λ r. column_row layout (row r)) (λ r. flat (row r)) (row_room layout)
          (λ r. row-within layout (row r) some (row-length lines layout.columns some r)) all,
      cells-length lines layout.columns some,
      ap (λ n. n * row_room layout) (length-range_with_len 0 count),
    )

-- ---- how many rows there are, and how wide

rows_bound-some : (len columns : ℕ) → 1 ≤ columns → rows_bound len columns ≡ len / columns + 1
rows_bound-some len columns some = grind (arith, nat_tests)

rows-count : (lines len columns : ℕ) → 1 ≤ columns → lines ≤ len + 1
    → div_ceil lines columns ≤ rows_bound len columns
rows-count lines len columns some within =
    let past = lt-mul-div-succ len {b = columns} some in
    let most = (div_ceil_times lines columns some).1 in
    let swap : columns * (len / columns + 1) ≡ (len / columns + 1) * columns = omega arith in
    let next : (len / columns + 2) * columns ≡ (len / columns + 1) * columns + columns = omega arith in
    let less : div_ceil lines columns * columns < (len / columns + 2) * columns =
    omega (arith, past, most, swap, next, within) in
    omega (arith, lt_of_mul-lt-mul_right columns less, rows_bound-some len columns some)

inner-room : (inner columns : ℕ)
    → columns * column_width inner columns + (inner - columns * column_width inner columns)
    ≤ max inner columns
inner-room inner columns =
    let product = mul-div-le inner columns in
    elim (cases_lt 0 (inner / columns)) [
      | inl some ↦
          let own : max (inner / columns) 1 ≡ inner / columns = omega (arith, some) in
          omega (arith, product, ap (λ n. columns * n) own)
      | inr none ↦
          let own : max (inner / columns) 1 ≡ 1 = omega (arith, none) in
          omega (arith, ap (λ n. columns * n) own)
    ]

built-rows : (rows : List (List ℕ)) → built_text (map Built rows) ≡ flat rows
built-rows rows = flat_map-map built_bytes Built rows

-- ---- the bounds

module _ (o : TextwrapOptions) (gaps : TextwrapGaps) (columns : ℕ) (some : 1 ≤ columns)
    (len : ℕ) (text : List ℕ) (utf8 : IsUtf8 text) (len_is : length text ≡ len)
    (lines : List Line) (are : AreRows (IsInColumns (options_settings o)
    (Divides o) columns text gaps.left.now gaps.middle.now
    gaps.right.now) lines) where
  abbrev narrow : Settings
  narrow = at_column_width (options_settings o) columns gaps.left.now gaps.middle.now gaps.right.now

  pub rows-within : length lines ≤ rows_bound len columns
  rows-within =
      let (rows, (shown, shown_are, rows_are), lines_are) = are in
      let bounded = lines-bounded o narrow len text shown utf8 len_is shown_are in
      grind (
        arith,
        ap length lines_are,
        length-map,
        ap length rows_are,
        length-range_with_len,
        rows-count,
      )

  pub room-within : length (built_text lines) ≤ columns_room_bound o gaps len columns
  room-within =
      let (rows, (shown, shown_are, rows_are), lines_are) = are in
      let layout = row_layout o.width columns gaps.left.now gaps.middle.now gaps.right.now in
      let inner = inner_width o.width columns gaps.left.now gaps.middle.now gaps.right.now in
      let bounded = lines-bounded o narrow len text shown utf8 len_is shown_are in
      let texts = map line_bytes shown in
      let room = length gaps.left.now + length gaps.right.now
      + (columns - 1) * length gaps.middle.now + max o.width columns in
      omega (
        arith,
        ap (λ ls. length (built_text ls)) lines_are,
        ap length (built-rows rows),
        ap (λ rs. length (flat rs)) rows_are,
        rows-length layout texts some,
        mul-le (row_count texts columns) (row_room layout) (rows_bound len columns) room
            (rows-count (length texts) len columns some
            (omega (arith, bounded.count, length-map shown line_bytes)))
            (omega (arith, inner-room inner columns)),
      )
