-- What the wrong bodies of must-fail/ answer on worked rows, and that no contract allows it: each
-- theorem bears the name of its edit.
use Rattle.std.specs.Prelude.{slice_index}
use Rattle.std.specs.List.{range_with_len}
use Rattle.std.specs.Str.{chars}
use Rattle.std.proofs.Math.Seq.{drop-append_seam}
use Rattle.unicode_width.specs.Width.{char_width}
use Rattle.textwrap.proofs.Common.{IsGreedy, length-append}
use Rattle.textwrap.proofs.Text.InPlace.{divided_one}
use Rattle.textwrap.specs.Columns.{cells, column_row, IsInColumns, row_layout, padded}
use Rattle.textwrap.specs.Columns.{row_count}
use Rattle.textwrap.specs.Indentation.{dedented}
use Rattle.textwrap.specs.InPlace.{broken_lines, IsFilledInPlace}
use Rattle.textwrap.specs.Refilling.{IsRefilled, unfilled_text}
use Rattle.textwrap_layout.specs.{Options.Settings, Options.settings_at, Paragraph.line_bytes}
use Rattle.textwrap_text.proofs.Common.{[], ◌∷◌, ◌++◌, ◌≡◌, ◌≢◌, ◌∙◌, ℕ, zero, suc, List, Bool, ap}
use Rattle.textwrap_text.proofs.Common.{arith, codes, drop, flat_map, length, map, refl, rules, sym}
use Rattle.textwrap_text.specs.LineEnding.{ending_bytes, join_with, paragraphs_of}
use Rattle.textwrap_text.specs.declared.line_ending.LineEnding.TheVariants.{CRLF, LF}
use Rattle.textwrap_words.specs.Words.{sizes_of, word_of, words_of, WordText}

-- ---- filling in place

-- a text of one part, divided so, becomes this
abbrev feeds_of : List (List WordText) → List ℕ
feeds_of division = join_with (ending_bytes LF) (flat_map broken_lines (division ∷ []))

-- and nothing else
refute-in_place : (width : ℕ) (text wrong : List ℕ) (division : List (List WordText))
    → paragraphs_of LF text ≡ text ∷ [] → IsGreedy sizes_of (width ∷ []) (words_of text) division
    → wrong ≢ feeds_of division → IsFilledInPlace width text wrong → ⊥
refute-in_place width text wrong division one greedy other (divisions, divided, is) =
    let same : divisions ≡ division ∷ [] = divided_one width (paragraphs_of LF text) divisions divided
    ∙ sym (divided_one width (paragraphs_of LF text) (division ∷ []) (rw one (greedy, refl))) in
    other (is ∙ ap (λ (found : List (List (List WordText))). join_with (ending_bytes LF)
    (flat_map broken_lines found)) same)

-- "foo  bar    baz" at 10 columns has two lines
abbrev with_runs : List ℕ
with_runs = codes "foo  bar    baz"

abbrev two_lines : List (List WordText)
two_lines = (word_of (codes "foo  ") ∷ word_of (codes "bar    ") ∷ [])
    ∷ (word_of (codes "baz") ∷ []) ∷ []

greedy-two_lines : IsGreedy sizes_of (10 ∷ []) (words_of with_runs) two_lines
unfolding chars char_width lib.Utf8.encode
greedy-two_lines = search (rules, arith)

feeds-two_lines : feeds_of two_lines ≡ codes "foo  bar   \nbaz"
feeds-two_lines = refl

-- The last blank of the run becomes the line feed.
pub first_blank_of_a_run_broken : IsFilledInPlace 10 with_runs (codes "foo  bar\n   baz") → ⊥
first_blank_of_a_run_broken =
    refute-in_place 10 with_runs (codes "foo  bar\n   baz") two_lines refl greedy-two_lines (λ is.
    let early : 10 ≡ 32 = ap (λ (text : List ℕ). slice_index text 8) (is ∙ feeds-two_lines) in
    absurd (omega (arith, early)))

pub nothing_changed_in_place : IsFilledInPlace 10 with_runs with_runs → ⊥
nothing_changed_in_place =
    refute-in_place 10 with_runs with_runs two_lines refl greedy-two_lines (λ is.
    let blank : 32 ≡ 10 = ap (λ (text : List ℕ). slice_index text 11) (is ∙ feeds-two_lines) in
    absurd (omega (arith, blank)))

-- Where memory runs out, the text is as it was, and not empty.
pub text_taken_out_before_memory_runs_out : [] ≡ with_runs → ⊥
text_taken_out_before_memory_runs_out unchanged =
    let none : 0 ≡ 15 = ap length unchanged in absurd (omega (arith, none))

-- ---- margins

dedented-lines : dedented (codes "\t  \tfoo\n\t    \tbar") ≡ codes "\tfoo\n  \tbar"
unfolding chars lib.Utf8.encode
dedented-lines = refl

-- The margin is the tab and the two blanks that both lines begin with.
pub tabs_and_blanks_in_one_margin :
    codes "foo\n \tbar" ≡ dedented (codes "\t  \tfoo\n\t    \tbar") → ⊥
tabs_and_blanks_in_one_margin is =
    let shorter : 9 ≡ 11 = ap length (is ∙ dedented-lines) in absurd (omega (arith, shorter))

-- ---- unfilling and refilling

-- All lines but the first have `#` in common, and no more.
pub each_line_loses_its_own_prefix :
    codes "foo bar baz" ≡ unfilled_text (codes "foo\n# bar\n## baz") → ⊥
each_line_loses_its_own_prefix is =
    let longer : 11 ≡ 14 = ap length is in absurd (omega (arith, longer))

abbrev by_two_bytes : Settings
by_two_bytes = record (settings_at 5) { line_ending = CRLF }

-- By CR LF the text ends in that, however it is filled.
pub refilled_text_as_it_was :
    (Divides : Settings → Bool → List ℕ → List (List WordText) → Type 0)
    → IsRefilled by_two_bytes Divides (codes "foo\r\nbar\n") (codes "foo\r\nbar\n") → ⊥
refilled_text_as_it_was Divides (filled, is_filled, is) =
    let ends : codes "foo\r\nbar\n" ≡ filled ++ 13 ∷ 10 ∷ [] = is in
    let seven : 7 ≡ length filled =
    omega (arith, ap length ends, length-append filled (13 ∷ 10 ∷ [])) in
    let end : codes "r\n" ≡ 13 ∷ 10 ∷ [] =
    ap (λ (n : ℕ). drop n (codes "foo\r\nbar\n")) seven ∙ ap (drop (length filled)) ends
    ∙ drop-append_seam filled (13 ∷ 10 ∷ []) in
    cc

-- ---- columns

-- a row of any cells in 4 columns of 7, without gaps
abbrev row_of : List (List ℕ) → List ℕ
row_of row = column_row (row_layout 7 4 [] [] []) row

abbrev first_text : List (List ℕ) → List ℕ
first_text [] = []
first_text (text ∷ texts) = text

-- ends in three blanks
row-spare : (row : List (List ℕ)) → codes "abcd" ≡ row_of row → ⊥
unfolding chars lib.Utf8.encode
row-spare row is =
    let front = join_with [] (map (padded 1) row) in
    let ends : codes "abcd" ≡ front ++ codes "   " = is in
    let one : 1 ≡ length front = omega (arith, ap length ends, length-append front (codes "   ")) in
    let blanks : codes "bcd" ≡ codes "   " = ap (λ (n : ℕ). drop n (codes "abcd")) one
    ∙ ap (drop (length front)) ends ∙ drop-append_seam front (codes "   ") in
    cc

row-first : (cells_at : ℕ → List (List ℕ)) (rows : ℕ)
    → codes "abcd" ∷ [] ≡ map (λ r. row_of (cells_at r)) (range_with_len 0 rows) → ⊥
row-first cells_at zero is = cc
row-first cells_at (suc rows) is = row-spare (cells_at 0) (ap first_text is)

-- "a b c d" in 4 columns of 7: three columns are spare, and 7 leaves nothing by 1.
pub last_column_padded_by_the_remainder :
    (Divides : Settings → Bool → List ℕ → List (List WordText) → Type 0)
    → IsInColumns (settings_at 7) Divides 4 (codes "a b c d") [] [] [] (codes "abcd" ∷ []) → ⊥
last_column_padded_by_the_remainder Divides (lines, are, is) =
    let texts = map line_bytes lines in
    row-first (cells texts (row_count texts 4) 4) (row_count texts 4) is
