-- The lines of hyphenated pieces: the hyphens behind them, and those that pass their width.
use Rattle.textwrap.proofs.Common.{Settings, parts_from, parts_of, widths_of, All, All-cons}
use Rattle.textwrap.proofs.Common.{All-head, All-nil, All-tail, Bool, List, [], ap, arith, cases_lt}
use Rattle.textwrap.proofs.Common.{false, inl, inr, length, refl, rules, subst, suc, sym, take_all}
use Rattle.textwrap.proofs.Common.{text_width, true, zero, ℕ, ⊎_elim, ◌++◌, ◌+◌, ◌<◌, ◌==◌, ◌∙◌}
use Rattle.textwrap.proofs.Common.{◌∷◌, ◌≡◌, ◌≤◌, ◌⊎◌, all-right, flat, ByFirstFit, IsDividedBy}
use Rattle.textwrap.proofs.Common.{WordText, sizes_of, text_width-nil}
use Rattle.textwrap_base.proofs.Division.Map.{IsDivision-whole}
use Rattle.textwrap_hyphens.proofs.SplitPieces.{HasHyphenAtMost}
use Rattle.textwrap_layout.proofs.Common.{AllFit, Fits, closed_width, line_width, empty_word}
use Rattle.textwrap_layout.proofs.Common.{front_pieces, last_piece, later_width}
use Rattle.textwrap_layout.proofs.Paragraph.Widths.{later_is}
use Rattle.textwrap_lines.proofs.Common.{all-left}
use Rattle.textwrap_plain.specs.Hyphenated.{AddsHyphenAtMost, KeepsButHyphen, OnlyHyphensPass}
use Rattle.textwrap_text.proofs.Common.{cond_both, eqb-true, nil_from_length}
use Rattle.textwrap_words.proofs.{Common.column_characters, Word.BrokenPieces.IsTight}

-- ---- hyphens

last_piece-hyphens : (w : WordText) (ws : List WordText) → All HasHyphenAtMost (w ∷ ws)
    → HasHyphenAtMost (last_piece w ws)
last_piece-hyphens w [] all = All-head HasHyphenAtMost w [] all
last_piece-hyphens w (v ∷ ws) all =
    last_piece-hyphens v ws (All-tail HasHyphenAtMost w (v ∷ ws) all)

parts_of-hyphens : (settings : Settings) (is_later : Bool) (line : List WordText)
    → All HasHyphenAtMost line → AddsHyphenAtMost (parts_of settings is_later line)
parts_of-hyphens settings is_later [] all = inl refl
parts_of-hyphens settings is_later (w ∷ ws) all = last_piece-hyphens w ws all

pub parts_from-hyphens : (settings : Settings) (is_later : Bool) (division : List (List WordText))
    → All HasHyphenAtMost (flat division)
    → All AddsHyphenAtMost (parts_from settings is_later division)
parts_from-hyphens settings is_later [] all = All-nil AddsHyphenAtMost
parts_from-hyphens settings is_later (line ∷ lines) all =
    All-cons AddsHyphenAtMost (parts_of settings is_later line) (parts_from settings true lines)
    (parts_of-hyphens settings is_later line (all-left HasHyphenAtMost line (flat lines) all))
    (parts_from-hyphens settings true lines (all-right HasHyphenAtMost line (flat lines) all))

-- ---- lines that pass their width

-- two pieces or more never pass
two_fit : (width : ℕ) (w v : WordText) (ws : List WordText) → Fits sizes_of width (w ∷ v ∷ ws)
    → width < closed_width sizes_of (w ∷ v ∷ ws) → ⊥
two_fit width w v ws fits past = search (rules, take_all)

line_passes : (limit width : ℕ) (line : List WordText) → Fits sizes_of width line → limit ≤ width
    → All (IsTight limit) line → width < closed_width sizes_of line → KeepsButHyphen width line
line_passes limit width [] fits room tight past = absurd (omega (arith, past))
line_passes limit width (w ∷ []) fits room tight past = (
  w,
  refl,
  ⊎_elim {C = (w.width ≤ width) ⊎ (length (column_characters w.word) ≡ 1)}
      (λ (wide : limit < w.width). inr (All-head (IsTight limit) w [] tight wide))
      (λ (narrow : w.width ≤ limit). inl (omega (arith, narrow, room)))
      (cases_lt limit w.width),
)
line_passes limit width (w ∷ v ∷ ws) fits room tight past = absurd (two_fit width w v ws fits past)

lines_pass : (limit : ℕ) (widths : List ℕ) (number : ℕ) (lines : List (List WordText))
    → AllFit sizes_of widths number lines → ((k : ℕ) → number ≤ k → limit ≤ line_width widths k)
    → All (IsTight limit) (flat lines) → OnlyHyphensPass widths number lines
lines_pass limit widths number [] fit room tight = tt
lines_pass limit widths number (line ∷ lines) fit room tight = (
  line_passes limit (line_width widths number) line fit.0 (room number (omega arith))
      (all-left (IsTight limit) line (flat lines) tight),
  lines_pass limit widths (number + 1) lines fit.1 (λ k from. room k (omega (arith, from)))
      (all-right (IsTight limit) line (flat lines) tight),
)

-- an empty piece in front has room on the first line, however narrow
first_passes : (width : ℕ) (line rest others : List WordText) → line ++ rest ≡ empty_word ∷ others
    → Fits sizes_of width line → width < closed_width sizes_of line → ⊥
first_passes width [] rest others is fits past = absurd (omega (arith, past))
first_passes width (w ∷ []) rest others is fits past = search rules
first_passes width (w ∷ v ∷ ws) rest others is fits past = two_fit width w v ws fits past

front_passes : (first later : ℕ) (lines : List (List WordText)) (others : List WordText)
    → flat lines ≡ empty_word ∷ others → AllFit sizes_of (first ∷ later ∷ []) 0 lines
    → All (IsTight later) (flat lines) → OnlyHyphensPass (first ∷ later ∷ []) 0 lines
front_passes first later [] others is fit tight = tt
front_passes first later (line ∷ lines) others is fit tight = (
  λ past. absurd (search (rules, first_passes)),
  lines_pass later (first ∷ later ∷ []) 1 lines fit.1
      (λ k from. let same = later_is first later k from in omega (arith, same))
      (all-right (IsTight later) line (flat lines) tight),
)

-- the lines of first fit
pub greedy_passes : (settings : Settings) (is_later : Bool) (broken : List WordText)
    (division : List (List WordText))
    → IsDividedBy ByFirstFit sizes_of (widths_of settings is_later) (front_pieces settings ++ broken)
    division
    → All (IsTight (later_width settings)) (front_pieces settings ++ broken)
    → OnlyHyphensPass (widths_of settings is_later) 0 division
greedy_passes settings is_later broken division greedy tight =
    by_front (length settings.initial_indent == 0) refl
  where
    whole : flat division ≡ front_pieces settings ++ broken
    whole = IsDivision-whole (front_pieces settings ++ broken) division
        greedy.admissible.division

    all : All (IsTight (later_width settings)) (flat division)
    all = subst (All (IsTight (later_width settings))) (sym whole) tight

    room : text_width settings.initial_indent ≡ 0 → (k : ℕ) → 0 ≤ k
        → later_width settings ≤ line_width (widths_of settings is_later) k
    room narrow zero from = search (rules, cond_both)
    room narrow (suc k) from = search (rules, arith, later_is)

    by_front : (b : Bool) → (length settings.initial_indent == 0) ≡ b
        → OnlyHyphensPass (widths_of settings is_later) 0 division
    by_front true unindented =
        let empty = nil_from_length settings.initial_indent
        (eqb-true (length settings.initial_indent) 0 unindented) in
        let narrow : text_width settings.initial_indent ≡ 0 = ap text_width empty
        ∙ text_width-nil in
        lines_pass (later_width settings) (widths_of settings is_later) 0 division
        greedy.admissible.fit (room narrow) all
    by_front false indented = search (rules, arith, front_passes, all)
