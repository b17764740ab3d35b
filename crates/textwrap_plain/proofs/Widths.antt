-- The widths of the pieces of a paragraph are together at most twice its bytes: each hyphen has a
-- byte of its own before it.
use Rattle.textwrap_base.proofs.Cost.LineCosts.{total_width-cons}
use Rattle.textwrap_hyphens.proofs.SplitPieces.{CarriesHyphen}
use Rattle.textwrap_layout.proofs.Common.{total_width, broken_pieces_of, empty_word, front_pieces}
use Rattle.textwrap_layout.proofs.Common.{fitting_pieces, room_of, broken_pieces, pieces_with}
use Rattle.textwrap_lines.proofs.Common.{Settings, All, All-head, All-tail, Bool, IsUtf8, List, []}
use Rattle.textwrap_lines.proofs.Common.{ap, append-nil, arith, cond, false, flat_map, length}
use Rattle.textwrap_lines.proofs.Common.{length-append, true, ℕ, ◌++◌, ◌+◌, ◌∷◌, ◌≡◌, ◌≤◌, WordText}
use Rattle.textwrap_lines.proofs.Common.{broken_word, piece, sizes_of, tile_of, tiled, IsMeasured}
use Rattle.textwrap_text.proofs.{Common.{eqb, ltb, sum_by-append, ◌*◌}, Units.Reading.text_width-le}
use Rattle.textwrap_words.proofs.Common.{broken_texts}
use Rattle.textwrap_words.proofs.Word.BrokenPieces.{broken_texts-tile, broken_texts-utf8}

total_width-append : (ws vs : List WordText)
    → total_width sizes_of (ws ++ vs) ≡ total_width sizes_of ws + total_width sizes_of vs
total_width-append ws vs =
    sum_by-append (λ w. (sizes_of w).width + (sizes_of w).whitespace + (sizes_of w).penalty) ws vs

-- ---- the pieces of a broken word

pieces_with-wide : (whitespace penalty : List ℕ) (texts : List (List ℕ)) → All IsUtf8 texts
    → total_width sizes_of (pieces_with whitespace penalty texts)
    ≤ length (flat_map (λ t. t) texts) + length whitespace + length penalty
pieces_with-wide whitespace penalty [] utf8 = omega arith
pieces_with-wide whitespace penalty (text ∷ []) utf8 =
    omega (
      arith,
      text_width-le text (All-head IsUtf8 text [] utf8),
      total_width-cons sizes_of (piece text whitespace penalty) [],
      ap length (append-nil text),
    )
pieces_with-wide whitespace penalty (text ∷ next ∷ texts) utf8 =
    omega (
      arith,
      text_width-le text (All-head IsUtf8 text (next ∷ texts) utf8),
      total_width-cons sizes_of (piece text [] []) (pieces_with whitespace penalty (next ∷ texts)),
      length-append text (flat_map (λ (t : List ℕ). t) (next ∷ texts)),
      pieces_with-wide whitespace penalty (next ∷ texts) (All-tail IsUtf8 text (next ∷ texts) utf8),
    )

broken_word-wide : (limit : ℕ) (w : WordText) → IsMeasured w → CarriesHyphen w
    → total_width sizes_of (broken_word limit w) ≤ 2 * length (tile_of w)
broken_word-wide limit w measured carries =
    elim (ltb limit w.width) as (λ b. total_width sizes_of (cond b (broken_pieces limit w) (w ∷ []))
    ≤ 2 * length (tile_of w)) [
      | true ↦
          omega (
            arith,
            pieces_with-wide w.whitespace w.penalty (broken_texts limit w.word)
                (broken_texts-utf8 limit w.word measured.utf8),
            ap length (broken_texts-tile limit w.word measured.utf8),
            length-append w.word w.whitespace,
          )
      | false ↦
          omega (
            arith,
            text_width-le w.word measured.utf8,
            total_width-cons sizes_of w [],
            length-append w.word w.whitespace,
          )
    ]

fitting-wide : (settings : Settings) (words : List WordText) → All IsMeasured words
    → All CarriesHyphen words
    → total_width sizes_of (fitting_pieces settings words) ≤ 2 * length (tiled words)
fitting-wide settings [] measured carries = omega arith
fitting-wide settings (w ∷ words) measured carries =
    let room = room_of settings w in
    omega (
      arith,
      broken_word-wide room w (All-head IsMeasured w words measured)
          (All-head CarriesHyphen w words carries),
      fitting-wide settings words (All-tail IsMeasured w words measured)
          (All-tail CarriesHyphen w words carries),
      total_width-append (broken_word room w) (fitting_pieces settings words),
      length-append (tile_of w) (tiled words),
    )

words-wide : (words : List WordText) → All IsMeasured words → All CarriesHyphen words
    → total_width sizes_of words ≤ 2 * length (tiled words)
words-wide [] measured carries = omega arith
words-wide (w ∷ words) measured carries =
    let here = All-head IsMeasured w words measured in
    omega (
      arith,
      All-head CarriesHyphen w words carries,
      text_width-le w.word here.utf8,
      total_width-cons sizes_of w words,
      length-append w.word w.whitespace,
      length-append (tile_of w) (tiled words),
      words-wide words (All-tail IsMeasured w words measured)
          (All-tail CarriesHyphen w words carries),
    )

-- ---- the pieces of a paragraph

front-wide : (b : Bool) → total_width sizes_of (cond b [] (empty_word ∷ [])) ≡ 0
front-wide true = omega arith
front-wide false = omega arith

pub pieces-wide : (settings : Settings) (split : List WordText) → All IsMeasured split
    → All CarriesHyphen split
    → total_width sizes_of (broken_pieces_of settings split) ≤ 2 * length (tiled split)
pieces-wide settings split measured carries =
    let broken = fitting_pieces settings split in
    elim settings.break_words as (λ b. total_width sizes_of
    (cond b (front_pieces settings ++ broken) split) ≤ 2 * length (tiled split)) [
      | true ↦
          omega (
            arith,
            fitting-wide settings split measured carries,
            total_width-append (front_pieces settings) broken,
            front-wide (eqb (length settings.initial_indent) 0),
          )
      | false ↦ words-wide split measured carries
    ]
