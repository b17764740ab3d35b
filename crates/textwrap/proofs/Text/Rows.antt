-- Rows of cells between gaps: one cell more, how many bytes they have, and the text of a line.
use Rattle.textwrap_text.proofs.Common.{length-take-le, rules}
use Rattle.textwrap.proofs.Common.{length-replicate, length-append, append_assoc, sum_by-cons, List}
use Rattle.textwrap.proofs.Common.{get_or-map, length-map, line_bytes, join_with, line_view, get_or}
use Rattle.textwrap.proofs.Common.{take_more, length, sum_by, arith, refl, take, zero, ◌++◌, map, ℕ}
use Rattle.textwrap.proofs.Common.{suc, sym, ◌*◌, ◌+◌, ◌-◌, ◌<◌, ◌∙◌, ◌∷◌, ◌≡◌, ◌≤◌, [], ap}
use Rattle.textwrap.specs.Rows.{gap_before, row_text}
use Rattle.std.proofs.lemmas.List.Sums.{sum_by_more}
use Rattle.std.specs.{Cow.cow_str_bytes, declared.borrow.CowStr.CowStr}
use Rattle.textwrap_layout.proofs.Text.Lines.{line_bytes-line_view}

-- a cell after others stands after the gap
join-last : (middle : List ℕ) (cells : List (List ℕ)) (cell : List ℕ)
    → join_with middle (cells ++ cell ∷ [])
    ≡ join_with middle cells ++ gap_before (length cells) middle ++ cell
join-last middle [] cell = refl
join-last middle (x ∷ []) cell = refl
join-last middle (x ∷ y ∷ cells) cell = grind (arith, append_assoc, join-last middle (y ∷ cells) cell)

pub join-more : (middle : List ℕ) (cells : List (List ℕ)) (c : ℕ) → c < length cells
    → join_with middle (take (c + 1) cells)
    ≡ join_with middle (take c cells) ++ gap_before c middle ++ get_or cells c []
join-more middle cells c within =
    let count : length (take c cells) ≡ c = length-take-le c cells (omega arith) in
    rw (take_more cells c [] within, join-last middle (take c cells) (get_or cells c []), count) refl

length-join : (middle : List ℕ) (cells : List (List ℕ))
    → length (join_with middle cells)
    ≡ sum_by length cells + (length cells - 1) * length middle
length-join middle [] = omega arith
length-join middle (x ∷ []) = omega (arith, sum_by-cons length x [])
length-join middle (x ∷ y ∷ cells) =
    let one : suc (suc (length cells)) - 1 ≡ suc (length cells) = omega arith in
    let less : suc (length cells) - 1 ≡ length cells = omega arith in
    let rest = length-join middle (y ∷ cells) in
    let more = ap (λ n. n * length middle) one in
    let same = ap (λ n. n * length middle) less in
    simp length-append (omega (arith, sum_by-cons length x (y ∷ cells), rest, more, same))

pub length-row : (left middle right : List ℕ) (spare : ℕ) (cells : List (List ℕ))
    → length (row_text left middle spare right cells)
    ≡ sum_by length cells + (length cells - 1) * length middle
    + (length left + spare + length right)
length-row left middle right spare cells =
    simp (length-append, length-replicate) (omega (arith, length-join middle cells))

-- cells that are the same have as many bytes each
pub length-alike : (cells : List (List ℕ)) (c count : ℕ) → c + count ≤ length cells
    → ((i : ℕ) → c ≤ i → i < c + count → get_or cells i [] ≡ get_or cells c [])
    → sum_by length (take (c + count) cells)
    ≡ sum_by length (take c cells) + count * length (get_or cells c [])
length-alike cells c zero within same = search (rules, arith)
length-alike cells c (suc count) within same =
    let last : c + suc count ≡ (c + count) + 1 = omega arith in
    omega (
      arith,
      ap (λ n. sum_by length (take n cells)) last,
      sum_by_more length cells (c + count) [] (omega arith),
      ap length (same (c + count) (omega arith) (omega arith)),
      length-alike cells c count (omega arith) (λ i after before. same i after (omega arith)),
    )

-- the text of a line
pub line-is : {Z : Type 0} (lines : List (CowStr Z)) (line : CowStr Z) (at : ℕ)
    → at < length lines → line ≡ get_or lines at line
    → get_or (map line_bytes (map line_view lines)) at [] ≡ cow_str_bytes line
line-is lines line at within is =
    get_or-map line_bytes (map line_view lines) at (line_view line) []
    (omega (arith, length-map lines line_view))
    ∙ ap line_bytes (get_or-map line_view lines at line (line_view line) within)
    ∙ ap (λ l. line_bytes (line_view l)) (sym is) ∙ line_bytes-line_view line
