-- The widths of pieces in a row, and the text of a line of them.
use Rattle.textwrap_base.proofs.Common.{total_width, open_width, Sizes}
use Rattle.textwrap_base.proofs.{Cost.Measures.total_width-same, Division.Greedy.open_width-cons}
use Rattle.textwrap_base.specs.{Errors.Fits64Bits, PrefixSums.HavePrefixSums}
use Rattle.textwrap_layout.proofs.Paragraph.LeftOff.{narrow_words}
use Rattle.textwrap_marked.proofs.Common.{JoinedPiece, length-drop, trimmed_len, append-nil, length-map}
use Rattle.textwrap_marked.proofs.Common.{piece_view, drop_more, WordText, sizes_of, AreCuts, covered, ap}
use Rattle.textwrap_marked.proofs.Common.{take-append-drop, parts_between, append_assoc, final_blanks, []}
use Rattle.textwrap_marked.proofs.Common.{word_of, IsUtf8, get_or, length, arith, List, drop, refl, take}
use Rattle.textwrap_marked.proofs.Common.{zero, ◌++◌, map, suc, sym, ◌+◌, ◌-◌, ◌<◌, ◌∙◌, ◌∷◌, ◌≡◌, ◌≤◌, ℕ}
use Rattle.textwrap_marked.specs.Pieces.{piece_priced, AreInRow}
use Rattle.textwrap_words.proofs.Word.{Parts.parts-texts, Words.total_width-narrow}

abbrev piece_sizes : JoinedPiece → Sizes
piece_sizes p = sizes_of (piece_view p)

-- each opens after the widths of those before it, and closes after that
row-opens : (opens : ℕ) (pieces : List JoinedPiece) (i : ℕ) (d : JoinedPiece) → AreInRow opens pieces
    → i < length pieces
    → ((get_or pieces i d).opens ≡ opens + open_width piece_sizes (take i pieces))
    × ((get_or pieces i d).opens ≤ (get_or pieces i d).closes)
row-opens opens [] i d row within = absurd (omega (arith, within))
row-opens opens (p ∷ pieces) zero d (is, order, row) within =
    (omega (arith, is), omega (arith, is, order))
row-opens opens (p ∷ pieces) (suc i) d (is, order, row) within =
    let (later, close) = row-opens (p.closes + length (final_blanks p.text.now)) pieces i d row
    (omega (arith, within)) in
    let more = open_width-cons piece_sizes p (take i pieces) in
    (omega (arith, is, order, later, more), close)

pub row-sums : (pieces : List JoinedPiece) → AreInRow 0 pieces → Fits64Bits (total_width piece_sizes pieces)
    → HavePrefixSums piece_priced (λ p. p.opens) (λ p. p.closes) pieces
row-sums pieces row fits = record {
  opens_after = λ i d within. omega (arith, (row-opens 0 pieces i d row within).0);
  closes_after = λ i d within. omega (arith, (row-opens 0 pieces i d row within).1);
  total = omega (arith, fits);
}

-- ---- the widths of the pieces of a text fit 64 bits together

sizes-map : {X Y : Type 0} (f : X → Y) (sizes : Y → Sizes) (xs : List X)
    → map (λ x. sizes (f x)) xs ≡ map sizes (map f xs)
sizes-map f sizes [] = refl
sizes-map f sizes (x ∷ xs) = ap (λ l. sizes (f x) ∷ l) (sizes-map f sizes xs)

pub pieces-fit : (text cuts : List ℕ) (pieces : List JoinedPiece) → IsUtf8 text → AreCuts text cuts
    → map piece_view pieces ≡ map word_of (parts_between cuts text)
    → total_width (λ piece. sizes_of (piece_view piece)) pieces ≤ length text
pieces-fit text cuts pieces utf8 are is =
    let texts = parts-texts text cuts utf8 are in
    let words : List WordText = map word_of (parts_between cuts text) in
    let fit = total_width-narrow words (narrow_words words texts.measured texts.plain) in
    let same = total_width-same (λ piece. sizes_of (piece_view piece)) sizes_of pieces words
    (sizes-map piece_view sizes_of pieces ∙ ap (map sizes_of) is) in
    omega (arith, fit, same, ap length texts.tile)

-- ---- the pieces of a line, written one after another without the last one's blank

covered-next : (piece : WordText) (pieces : List WordText) → 0 < length pieces
    → covered (piece ∷ pieces) ≡ piece.word ++ piece.whitespace ++ covered pieces
covered-next piece [] some = absurd (omega arith)
covered-next piece (next ∷ pieces) some = refl

covered-last : (piece : WordText) (pieces : List WordText) → length pieces ≡ 0
    → covered (piece ∷ pieces) ≡ piece.word ++ covered pieces
covered-last piece [] none = sym (append-nil piece.word)
covered-last piece (next ∷ pieces) none = absurd (omega (arith, none))

-- one piece more is written, and the text is still the same with those that are left
module _ (line : List JoinedPiece) (i : ℕ) (d : JoinedPiece) (before after whole : List ℕ)
    (within : i < length line) (is : before ++ covered (map piece_view (drop i line)) ≡ whole) where
  abbrev piece : WordText
  piece = piece_view (get_or line i d)

  abbrev left : List WordText
  left = map piece_view (drop (i + 1) line)

  left-is : before ++ covered (piece ∷ left) ≡ whole
  left-is = ap (λ l. before ++ covered (map piece_view l)) (sym (drop_more line i d within)) ∙ is

  left-len : length left ≡ length line - (i + 1)
  left-len = omega (arith, length-map (drop (i + 1) line) piece_view, length-drop (i + 1) line)

  pub pieces-next : i + 1 < length line → after ≡ before ++ (get_or line i d).text.now
      → after ++ covered left ≡ whole
  pieces-next more text =
      let parts : (get_or line i d).text.now ≡ piece.word ++ piece.whitespace =
      sym (take-append-drop (trimmed_len (get_or line i d).text.now) (get_or line i d).text.now) in
      let grown : (before ++ (piece.word ++ piece.whitespace)) ++ covered left
      ≡ before ++ ((piece.word ++ piece.whitespace) ++ covered left) = simp append_assoc in
      ap (λ l. l ++ covered left) (text ∙ ap (λ l. before ++ l) parts) ∙ grown
      ∙ ap (λ l. before ++ l) (sym (covered-next piece left (omega (arith, left-len)))) ∙ left-is

  pub pieces-last : length line ≤ i + 1 → after ≡ before ++ piece.word → after ++ covered left ≡ whole
  pieces-last past word =
      ap (λ l. l ++ covered left) word ∙ append_assoc before piece.word (covered left)
      ∙ ap (λ l. before ++ l) (sym (covered-last piece left (omega (arith, left-len)))) ∙ left-is
