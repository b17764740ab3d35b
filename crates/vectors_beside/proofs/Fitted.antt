-- The help of a program whose flags are as wide as they need: its needs, its total, its columns, and
-- how wide its rows are.
use Rattle.vectors_beside.proofs.Common.{[], All, List, arith, help_columns, length, map, subst}
use Rattle.vectors_beside.proofs.Common.{codes}
use Rattle.vectors_beside.proofs.Common.{◌+◌, ◌-◌, ◌<◌, ◌∷◌, ◌≡◌, ℕ, ap, refl, sym, ◌∙◌, get_or}
use Rattle.std.proofs.Common.{max, min, sum, sum_by, ◌^◌}
use Rattle.std.proofs.lemmas.List.Elements.{All-append, All-head, All-nil, All-tail, All-weaker}
use Rattle.std.specs.List.{flat_map}
use Rattle.textwrap_display.proofs.Widths.{blanks-are}
use Rattle.textwrap.specs.Columns.{blanks}
use Rattle.textwrap_display.specs.Fitting.{widest_line}
use Rattle.textwrap_display.specs.Laws.{KeepToColumns, TableRowsAreEven, row_width}
use Rattle.textwrap_display.specs.Styled.{IsWholeText}
use Rattle.textwrap_display.specs.Tables.{Shape, group_rows, shape_of_parts}
use Rattle.textwrap_display.specs.declared.needs.Need.{Need}
use Rattle.textwrap_layout.proofs.Paragraph.LeftOff.{blanks-utf8}
use Rattle.textwrap_lines.proofs.Text.Printed.{blanks-printable, blanks-whole}
use Rattle.textwrap_text.proofs.Units.Reading.{printable-width}
use Rattle.textwrap_text.specs.Units.{text_width}
use Rattle.vectors_beside.specs.Help.{help_gaps, left_column}
use Rattle.textwrap_words.proofs.Word.Words.{text_width-nil}

-- the two needs, of which the flags stay whole
pub whole-flags : (needs : List Need) (first second flags texts : Need) → needs ≡ first ∷ second ∷ []
    → flags ≡ get_or needs 0 flags → texts ≡ get_or needs 1 texts
    → record { least = flags.most; most = flags.most } ∷ texts ∷ []
    ≡ record { least = first.most; most = first.most } ∷ second ∷ []
whole-flags needs first second flags texts are left right =
    let first_is : flags ≡ first = left ∙ ap (λ l. get_or l 0 flags) are in
    let second_is : texts ≡ second = right ∙ ap (λ l. get_or l 1 texts) are in
    rw (first_is, second_is) refl

-- no more than both lines
pub both-lines : (width left lines most total : ℕ) (flags texts : Need)
    → left ≡ width - 4 → most ≡ max texts.least texts.most
    → lines ≡ min (flags.most + most) (2 ^ 64 - 1) → total ≡ min left lines → width < 2 ^ 64
    → total ≡ min (width - 4)
    (sum_by widest_line (record { least = flags.most; most = flags.most } ∷ texts ∷ []))
both-lines width left lines most total flags texts one two three four fits = omega arith

-- two widths that are the total together
pub two-columns : (total d : ℕ) (widths : List ℕ) → length widths ≡ 2 → sum widths ≡ total
    → help_columns (get_or widths 0 d) (total + 4) ≡ map left_column widths
two-columns total d [] two all = absurd (omega (arith, two))
two-columns total d (m ∷ []) two all = absurd (omega (arith, two))
two-columns total d (m ∷ n ∷ []) two all =
    let rest : total + 4 - (m + 4) ≡ n = omega (arith, all) in
    ap (λ w. left_column m ∷ left_column w ∷ []) rest
two-columns total d (m ∷ n ∷ w ∷ widths) two all = absurd (omega (arith, two))

-- ---- how wide the rows are

gap-whole : IsWholeText (codes "  ")
gap-whole = (blanks-utf8 (blanks 2) (blanks-are 2), blanks-whole (blanks 2) (blanks-are 2))

gap-width : text_width (codes "  ") ≡ 2
gap-width = printable-width (blanks 2) (blanks-printable (blanks 2) (blanks-are 2))

abbrev shapes : List ℕ → List Shape
shapes widths = map shape_of_parts (map left_column widths)

columns-width : (total : ℕ) (widths : List ℕ) → length widths ≡ 2 → sum widths ≡ total
    → row_width help_gaps (shapes widths) ≡ total + 4
columns-width total [] two all = absurd (omega (arith, two))
columns-width total (m ∷ []) two all = absurd (omega (arith, two))
columns-width total (m ∷ n ∷ []) two all = omega (arith, all, gap-width, text_width-nil)
columns-width total (m ∷ n ∷ w ∷ widths) two all = absurd (omega (arith, two))

each-row : {X Y : Type 0} (P : Y → Type 0) (f : X → List Y) (xs : List X) → All (λ x. All P (f x)) xs
    → All P (flat_map f xs)
each-row P f [] all = All-nil P
each-row P f (x ∷ xs) all =
    All-append P (f x) (flat_map f xs) (All-head (λ x. All P (f x)) x xs all)
    (each-row P f xs (All-tail (λ x. All P (f x)) x xs all))

module _ (total : ℕ) (widths : List ℕ) (two : length widths ≡ 2) (all : sum widths ≡ total) where
  abbrev IsAsWide : List ℕ → Type 0
  IsAsWide row = text_width row ≡ total + 4

  abbrev rows_of : List (List (List ℕ)) → List (List ℕ)
  rows_of = group_rows help_gaps (shapes widths)

  group-as-wide : TableRowsAreEven → (cells : List (List (List ℕ)))
      → KeepToColumns (shapes widths) cells → All IsAsWide (rows_of cells)
  group-as-wide even cells keep =
      All-weaker (λ row. text_width row ≡ row_width help_gaps (shapes widths)) IsAsWide
      (λ row is. is ∙ columns-width total widths two all) (rows_of cells)
      (even help_gaps (shapes widths) cells gap-whole gap-whole keep)

  -- the rows of cells that keep to their columns
  pub rows-as-wide : TableRowsAreEven → (groups : List (List (List (List ℕ)))) (rows : List (List ℕ))
      → rows ≡ flat_map rows_of groups → All (KeepToColumns (shapes widths)) groups
      → All IsAsWide rows
  rows-as-wide even groups rows are keep =
      subst (All IsAsWide) (sym are) (each-row IsAsWide rows_of groups
      (All-weaker (KeepToColumns (shapes widths)) (λ cells. All IsAsWide (rows_of cells))
      (group-as-wide even) groups keep))
