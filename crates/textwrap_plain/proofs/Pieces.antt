-- The pieces of a hyphenated paragraph.
use Rattle.std.proofs.Common.{eqb, ltb, ◌*◌}
use Rattle.textwrap_base.specs.Errors.{Fits64Bits}
use Rattle.textwrap_hyphens.proofs.SplitPieces.{HasHyphenAtMost, split-carries, split-hyphens}
use Rattle.textwrap_layout.proofs.Common.{total_width, ArePieces, AreWordsCut, empty_word}
use Rattle.textwrap_layout.proofs.Common.{fitting_pieces, front_pieces, room_of, broken_pieces}
use Rattle.textwrap_layout.proofs.Paragraph.Pieces.{AreWordsCut-texts}
use Rattle.textwrap_layout.proofs.Paragraph.{Room.fitting-tight, Widths.{PiecesClose, close-room}}
use Rattle.textwrap_lines.proofs.Common.{Settings, later_width}
use Rattle.textwrap_lines.proofs.Common.{IsPrintable, printable-width, IsPrintableByte, All}
use Rattle.textwrap_lines.proofs.Common.{All-append, All-cons, All-nil, All-weaker, Bool, IsUtf8}
use Rattle.textwrap_lines.proofs.Common.{List, [], ap, arith, cond, false, inl, inr, length, refl}
use Rattle.textwrap_lines.proofs.Common.{subst, sym, true, ℕ, ⊤, ◌++◌, ◌<◌, ◌^◌, ◌∷◌, ◌≡◌, ◌≤◌}
use Rattle.textwrap_lines.proofs.Common.{WordText, broken_word, sizes_of, AreTexts}
use Rattle.textwrap_lines.proofs.Text.Printed.{PrintsPenalty}
use Rattle.textwrap_plain.{proofs.Widths.pieces-wide, specs.CutSides.points_by-inner}
use Rattle.textwrap_plain.specs.{Options.points_by, declared.options.PlainSplitter.PlainSplitter}
use Rattle.textwrap_words.proofs.Common.{AreCuts, AreInnerCuts, broken_texts, hyphen}
use Rattle.textwrap_words.proofs.Word.BrokenPieces.{IsTight, pieces_with-all}
use Rattle.textwrap_words.proofs.Word.{Cuts.inner-cuts, Pieces.split-measured, Pieces.split-tile}
use Rattle.textwrap_words.proofs.Word.Words.{All-each}

-- ---- the empty piece in front, and the pieces of a broken word

front-hyphens : (b : Bool) → All HasHyphenAtMost (cond b [] (empty_word ∷ []))
front-hyphens true = All-nil HasHyphenAtMost
front-hyphens false = All-cons HasHyphenAtMost empty_word [] (inl refl) (All-nil HasHyphenAtMost)

front-tight : (limit : ℕ) (b : Bool) → All (IsTight limit) (cond b [] (empty_word ∷ []))
front-tight limit true = All-nil (IsTight limit)
front-tight limit false = grind (arith, All-cons, All-nil)

broken_word-hyphens : (limit : ℕ) (w : WordText) → HasHyphenAtMost w → (b : Bool)
    → All HasHyphenAtMost (cond b (broken_pieces limit w) (w ∷ []))
broken_word-hyphens limit w has true =
    pieces_with-all HasHyphenAtMost (λ _. ⊤) w.whitespace w.penalty (λ _ _. inl refl) (λ _ _. has)
    (broken_texts limit w.word) (λ k d lt. tt)
broken_word-hyphens limit w has false = All-cons HasHyphenAtMost w [] has (All-nil HasHyphenAtMost)

-- ---- the hyphen behind a piece

pub hyphen-printable : IsPrintable (hyphen ∷ [])
hyphen-printable =
    All-cons IsPrintableByte hyphen [] (omega arith, omega arith) (All-nil IsPrintableByte)

-- a hyphen takes a column
pub hyphen-prints : (w : WordText) → w.penalty ≡ hyphen ∷ [] → PrintsPenalty w
hyphen-prints w is = rw is (printable-width (hyphen ∷ []) hyphen-printable)

-- ---- the pieces of a paragraph

module _ (settings : Settings) (Words : List ℕ → List WordText → Type 0)
    (texts : (line : List ℕ) (words : List WordText) → IsUtf8 line → Words line words
    → AreTexts line words) (Points : List ℕ → List ℕ → Type 0)
    (inner : (text points : List ℕ) → IsUtf8 text → Points text points → AreInnerCuts text points) where
  cuts : (text points : List ℕ) → IsUtf8 text → Points text points → AreCuts text points
  cuts text points utf8 are = inner-cuts text points (inner text points utf8 are)

  -- the pieces of a paragraph are together at most twice as wide as it has bytes
  pub hyphenated-wide : (paragraph : List ℕ) (pieces : List WordText) → IsUtf8 paragraph
      → ArePieces settings Words Points paragraph pieces
      → total_width sizes_of pieces ≤ 2 * length paragraph
  hyphenated-wide paragraph pieces utf8 (words, split, words_are, split_are, is) =
      let are = texts paragraph words utf8 words_are in
      omega (
        arith,
        ap (total_width sizes_of) is,
        pieces-wide settings split
            (split-measured Words Points texts cuts paragraph split utf8
            (words, words_are, split_are))
            (split-carries Points inner words split are.measured are.plain split_are),
        ap length (split-tile Words Points texts cuts paragraph split utf8
            (words, words_are, split_are)),
      )

  -- behind each of them nothing is printed, or a hyphen
  pub hyphenated-hyphens : (paragraph : List ℕ) (pieces : List WordText) → IsUtf8 paragraph
      → ArePieces settings Words Points paragraph pieces
      → All HasHyphenAtMost pieces
  hyphenated-hyphens paragraph pieces utf8 (words, split, words_are, split_are, is) =
      let are = texts paragraph words utf8 words_are in
      let room = room_of settings in
      let hyphens = split-hyphens Points inner words split are.measured are.plain split_are in
      subst (All HasHyphenAtMost) (sym is) (elim settings.break_words
      as (λ b. All HasHyphenAtMost (cond b (front_pieces settings
      ++ fitting_pieces settings split) split)) [
        | true ↦
            All-append HasHyphenAtMost (front_pieces settings) (fitting_pieces settings split)
            (front-hyphens (eqb (length settings.initial_indent) 0))
            (All-each HasHyphenAtMost HasHyphenAtMost (λ w. broken_word (room w) w)
            (λ w has. broken_word-hyphens (room w) w has (ltb (room w) w.width)) split hyphens)
        | false ↦ hyphens
      ])

  -- where words are broken, one that is wider than a line has one character that takes columns
  pub hyphenated-tight : (paragraph : List ℕ) (pieces : List WordText) → IsUtf8 paragraph
      → settings.break_words ≡ true
      → ArePieces settings Words Points paragraph pieces
      → All (IsTight (later_width settings)) pieces
  hyphenated-tight paragraph pieces utf8 breaks (words, split, words_are, split_are, is) =
      let limit = later_width settings in
      let measured = split-measured Words Points texts cuts
      paragraph split utf8 (words, words_are, split_are) in
      subst (All (IsTight limit)) (sym is) (rw breaks
      (All-append (IsTight limit) (front_pieces settings) (fitting_pieces settings split)
      (front-tight limit (eqb (length settings.initial_indent) 0))
      (fitting-tight settings split measured)))

  -- where hyphens are to have room, and later lines have it, each piece keeps to a later line that ends
  -- with it, or has one character that takes columns
  pub hyphenated-close : settings.room_for_hyphens ≡ true → 0 < later_width settings
      → settings.break_words ≡ true → PiecesClose settings Words Points
  hyphenated-close asked room breaks =
      close-room settings Words Points breaks texts cuts asked
      (λ paragraph words split utf8 words_are split_are.
      let are = texts paragraph words utf8 words_are in
      All-weaker HasHyphenAtMost (λ w. length w.penalty ≤ later_width settings)
      (λ w has. short w has) split
      (split-hyphens Points inner words split are.measured are.plain split_are))
    where
      short : (w : WordText) → HasHyphenAtMost w → length w.penalty ≤ later_width settings
      short w (inl none) = omega (arith, ap length none)
      short w (inr hyphen) = omega (arith, ap length hyphen, room)

-- ---- the pieces by options without functions

-- their widths fit a number
pub plain-fits : (splitter : PlainSplitter) (settings : Settings) (paragraph : List ℕ)
    (pieces : List WordText) → IsUtf8 paragraph → length paragraph < 2 ^ 63
    → ArePieces settings AreWordsCut (λ word points. points ≡ points_by splitter word) paragraph pieces
    → Fits64Bits (total_width sizes_of pieces)
plain-fits splitter settings paragraph pieces utf8 short are =
    omega (
      arith,
      hyphenated-wide settings AreWordsCut AreWordsCut-texts
          (λ word points. points ≡ points_by splitter word) (points_by-inner splitter) paragraph pieces
          utf8 are,
    )
