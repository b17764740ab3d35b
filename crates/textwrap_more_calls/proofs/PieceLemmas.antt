-- Where the paragraphs of a text stand, and pieces: those of a paragraph, and those of a word.
use Rattle.textwrap_calls.proofs.Common.{All, List, refl, sym, tiled, ◌++◌, ◌+◌, ◌-◌, ◌<◌, ◌∙◌, ◌∷◌}
use Rattle.textwrap_calls.proofs.Common.{All-head, All-tail, append-nil, ending_bytes, rest-within}
use Rattle.textwrap_calls.proofs.Common.{[], ap, ℕ, ◌≡◌, ◌≤◌}
use Rattle.textwrap_calls.proofs.Common.{append_assoc, join-paragraphs_of, join_with, paragraphs_of}
use Rattle.textwrap_calls.proofs.Common.{arith, flat_map, get_or, IsUtf8, length, rules, WordText}
use Rattle.textwrap_more_calls.specs.declared.paragraphs.TextwrapParagraph.{TextwrapParagraph}
use Rattle.textwrap_more_calls.specs.declared.pieces.TextwrapPiece.{TextwrapPiece}
use Rattle.textwrap_more_calls.specs.{Paragraphs.paragraph_places, Pieces.piece_places}
use Rattle.textwrap_text.specs.declared.line_ending.LineEnding.{LineEnding}
use Rattle.textwrap_words.proofs.Common.{broken_pieces, broken_texts, piece}
use Rattle.textwrap_words.proofs.Word.BrokenPieces.{broken_texts-tile, tiled-pieces_with}
use Rattle.textwrap_words.specs.{Breaking.pieces_with, Pieces.stand_from}
use Rattle.textwrap_words.{proofs.Word.Words.HasNoPenalty, specs.declared.pieces.Piece.Piece}

-- ---- where pieces stand: those of a paragraph, and those of a word

-- the places of the pieces that are left complete those of all pieces
pub record HasLeft (all : List WordText) (places : List TextwrapPiece) (offset : ℕ)
    (pieces : List Piece) : Type 0 where
  pub left : List WordText
  pub stand : pieces ≡ stand_from offset left
  pub none : All HasNoPenalty left
  pub are : places ++ piece_places offset left ≡ piece_places 0 all

-- a piece without penalty, the first at the offset
abbrev pub place_at : ℕ → Piece → TextwrapPiece
place_at offset p = record {
  offset = offset;
  len = p.word_end - offset;
  whitespace_len = p.end - p.word_end;
  penalty_len = 0;
  width = p.width;
}

pub record HasNext (all : List WordText) (places : List TextwrapPiece) (offset : ℕ) (p : Piece)
    (ps : List Piece) : Type 0 where
  pub from : offset ≤ p.word_end
  pub order : p.word_end ≤ p.end
  pub next : HasLeft all (places ++ place_at offset p ∷ []) p.end ps

module _ {all : List WordText} where
  pub Left-start : {pieces : List Piece} → All HasNoPenalty all → pieces ≡ stand_from 0 all
      → HasLeft all [] 0 pieces
  Left-start none stand = record { left = all; stand = stand; none = none; are = refl }

  pub Left-next : {places : List TextwrapPiece} {offset : ℕ} {p : Piece} {ps : List Piece}
      → HasLeft all places offset (p ∷ ps) → HasNext all places offset p ps
  Left-next {places} {offset} {p} {ps} h = by h.left h.stand h.none h.are
    where
      by : (left : List WordText) → p ∷ ps ≡ stand_from offset left → All HasNoPenalty left
          → places ++ piece_places offset left ≡ piece_places 0 all
          → HasNext all places offset p ps
      by [] stand none are = absurd (omega (arith, ap length stand))
      by (w ∷ ws) stand none are =
          let end = offset + length w.word + length w.whitespace in
          let piece : Piece = record {
            word_end = offset + length w.word;
            end = end;
            width = w.width;
          } in
          let same : p ≡ piece = ap (λ l. get_or l 0 p) stand in
          let len : piece.word_end - offset ≡ length w.word = omega arith in
          let gap : piece.end - piece.word_end ≡ length w.whitespace = omega arith in
          let penalty : length w.penalty ≡ 0 = ap length (All-head HasNoPenalty w ws none) in
          let rest = All-tail HasNoPenalty w ws none in
          search (rules, arith, append_assoc)

  pub Left-end : {places : List TextwrapPiece} {offset : ℕ} → HasLeft all places offset []
      → places ≡ piece_places 0 all
  Left-end {places} {offset} h = by h.left h.stand h.are
    where
      by : (left : List WordText) → [] ≡ stand_from offset left
          → places ++ piece_places offset left ≡ piece_places 0 all → places ≡ piece_places 0 all
      by [] stand are = sym (append-nil places) ∙ are
      by (w ∷ ws) stand are = absurd (omega (arith, ap length stand))

-- the pieces of a word, one after another, are its text
pub tiled-broken_text : (limit : ℕ) (text : List ℕ) → IsUtf8 text
    → tiled (broken_pieces limit (piece text [] [])) ≡ text
tiled-broken_text limit text utf8 = by (broken_texts limit text) (broken_texts-tile limit text utf8)
  where
    by : (texts : List (List ℕ)) → flat_map (λ t. t) texts ≡ text
        → tiled (pieces_with [] [] texts) ≡ text
    by [] tile = tile
    by (t ∷ ts) tile =
        tiled-pieces_with [] [] (t ∷ ts) (λ none. omega (arith, ap length none))
        ∙ append-nil (flat_map (λ u. u) (t ∷ ts)) ∙ tile

-- ---- where the paragraphs of a text stand, one after another

-- with the places of the paragraphs that are left, of which the first begins at the offset, these are
-- the places of all
pub record HasPlaced (ending : LineEnding) (text : List ℕ) (places : List TextwrapParagraph)
    (offset : ℕ) (left : List (List ℕ)) : Type 0 where
  pub whole : places ++ paragraph_places (length (ending_bytes ending)) offset left
      ≡ paragraph_places (length (ending_bytes ending)) 0 (paragraphs_of ending text)
  pub within : 0 < length left
      → offset + length (join_with (ending_bytes ending) left) ≤ length text

module _ {ending : LineEnding} {text : List ℕ} where
  pub HasPlaced-start : {places : List TextwrapParagraph} → places ≡ []
      → HasPlaced ending text places 0 (paragraphs_of ending text)
  HasPlaced-start none =
      let whole = ap length (join-paragraphs_of ending text) in
      let n = length (ending_bytes ending) in
      record {
        whole = ap (λ ps. ps ++ paragraph_places n 0 (paragraphs_of ending text)) none;
        within = λ some. omega (arith, whole);
      }

  pub HasPlaced-more : {places : List TextwrapParagraph} {offset next : ℕ} {paragraph : List ℕ}
      {after : List (List ℕ)} → HasPlaced ending text places offset (paragraph ∷ after)
      → next ≡ offset + (length paragraph + length (ending_bytes ending))
      → HasPlaced ending text
      (places ++ record { offset = offset; len = length paragraph } ∷ []) next after
  HasPlaced-more {places} {offset} {next} {paragraph} {after} so_far next_is =
      let n = length (ending_bytes ending) in
      let same : next ≡ offset + length paragraph + n = omega (arith, next_is) in
      record {
        whole = append_assoc places (record { offset = offset; len = length paragraph } ∷ [])
            (paragraph_places n next after)
            ∙ ap (λ at. places ++ record { offset = offset; len = length paragraph }
            ∷ paragraph_places n at after) same
            ∙ so_far.whole;
        within = λ some.
            let rest = rest-within (ending_bytes ending) paragraph after offset (length text)
            (so_far.within (omega arith)) some in
            omega (arith, rest, next_is);
      }
