-- Where the pieces of a paragraph stand in it, and words that stay whole under a limit.
use Rattle.textwrap_text.proofs.Common.{IsCharBoundary, length-append, append_assoc, IsUtf8-drop, ℕ}
use Rattle.textwrap_text.proofs.Common.{slice_range, drop-drop, All-head, All-tail, drop_at, IsUtf8}
use Rattle.textwrap_text.proofs.Common.{take_at, le-ltb, length, rules, arith, subst, List, drop}
use Rattle.textwrap_text.proofs.Common.{All-weaker, cond, false, true}
use Rattle.textwrap_text.proofs.Common.{refl, take, ◌++◌, All, sym, ◌+◌, ◌-◌, ◌<◌, ◌∙◌, ◌∷◌, ◌≡◌}
use Rattle.textwrap_text.proofs.Common.{◌≤◌, [], ap}
use Rattle.textwrap_layout.proofs.Common.{IsCharBoundary-from_rest, IsNarrowWord-measured, AreTexts}
use Rattle.textwrap_layout.proofs.Common.{broken_pieces_of, pieces_of_words, IsNarrowWord, Settings}
use Rattle.textwrap_layout.proofs.Common.{broken_words, break_limit, split_words, IsMeasured, tiled}
use Rattle.textwrap_layout.proofs.Common.{text_limit, Splitter, WordText, front_of, tile_of}
use Rattle.textwrap_layout.proofs.Common.{HasNoPenalty, fitting_pieces, front_pieces, later_width}
use Rattle.textwrap_layout.proofs.Common.{limit_at}
use Rattle.textwrap_layout.proofs.Paragraph.Room.{fitting-plain}
use Rattle.textwrap_text.proofs.Texts.{StartsWith-boundary}
use Rattle.textwrap_layout.proofs.Paragraph.LeftOff.{blanks-utf8}
use Rattle.textwrap_layout.proofs.Paragraph.Pieces.{split_words-no_penalty, split_words-measured}
use Rattle.textwrap_layout.proofs.Paragraph.Pieces.{split_words-tile}

-- ---- where the next piece of a line stands in the text

-- it stands there with its whitespace, characters end after both, and the text goes on
pub record StandsAt (text : List ℕ) (at : ℕ) (w : WordText) (after : List ℕ) : Type 0 where
  pub word : slice_range text at (at + length w.word) ≡ w.word
  pub gap : slice_range text (at + length w.word) (at + length w.word + length w.whitespace)
      ≡ w.whitespace
  pub word_ends : IsCharBoundary text (at + length w.word)
  pub ends : IsCharBoundary text (at + length w.word + length w.whitespace)
  pub next : drop (at + length w.word + length w.whitespace) text ≡ after
  pub utf8 : IsUtf8 (drop (at + length w.word + length w.whitespace) text)

pub stands-at : (text : List ℕ) (at : ℕ) (w : WordText) (after : List ℕ)
    → drop at text ≡ tile_of w ++ after → IsCharBoundary text at → IsUtf8 (drop at text)
    → IsMeasured w → StandsAt text at w after
stands-at text at w after seam begins utf8 measured =
    let n = length w.word in
    let m = length w.whitespace in
    let n_is : at + n - at ≡ n = omega arith in
    let m_is : at + n + m - (at + n) ≡ m = omega arith in
    let first = seam ∙ append_assoc w.word w.whitespace after in
    let word = ap (take n) first ∙ take_at w.word (w.whitespace ++ after) n refl in
    let past : drop (at + n) text ≡ w.whitespace ++ after = sym (drop-drop n at text)
    ∙ ap (drop n) first ∙ drop_at w.word (w.whitespace ++ after) n refl in
    let gap = ap (take m) past ∙ take_at w.whitespace after m refl in
    let edge = StartsWith-boundary (drop at text) w.word utf8 measured.utf8 word in
    let word_ends = IsCharBoundary-from_rest text at n begins.0 edge in
    let utf8_past = subst IsUtf8 (drop-drop n at text) (IsUtf8-drop (drop at text) n utf8 edge) in
    let end = StartsWith-boundary (drop (at + n) text) w.whitespace utf8_past
    (blanks-utf8 w.whitespace measured.ending.blanks) gap in
    record {
      word = ap (λ k. take k (drop at text)) n_is ∙ word;
      gap = ap (λ k. take k (drop (at + n) text)) m_is ∙ gap;
      word_ends = word_ends;
      ends = IsCharBoundary-from_rest text (at + n) m word_ends.0 end;
      next = sym (drop-drop m (at + n) text) ∙ ap (drop m) past ∙ drop_at w.whitespace after m refl;
      utf8 = subst IsUtf8 (drop-drop m (at + n) text) (IsUtf8-drop (drop (at + n) text) m utf8_past end);
    }

-- ---- words that stay whole are broken past a limit that none reaches

unbroken : (limit : ℕ) (ws : List WordText) → All IsNarrowWord ws → length (tiled ws) ≤ limit
    → broken_words limit ws ≡ ws
unbroken limit [] bounded within = refl
unbroken limit (w ∷ ws) bounded within =
    let here = All-head IsNarrowWord w ws bounded in
    let len = length-append (tile_of w) (tiled ws) in
    let word = length-append w.word w.whitespace in
    rw (le-ltb limit w.width (omega (arith, here.width, within, len, word)))
    (ap (λ l. w ∷ l) (unbroken limit ws (All-tail IsNarrowWord w ws bounded)
    (omega (arith, within, len))))

-- whether words are broken or not, these are the pieces
pub limited-words : (settings : Settings) (split : List WordText) → All IsNarrowWord split
    → length (tiled split) < text_limit
    → front_of settings ++ broken_words (break_limit settings) split
    ≡ broken_pieces_of settings split
limited-words settings split bounded short =
    let plain = fitting-plain settings split
    (All-weaker IsNarrowWord HasNoPenalty (λ w narrow. narrow.penalty) split bounded) in
    elim settings.break_words as (λ b. cond b (front_pieces settings) [] ++ broken_words
    (limit_at b (later_width settings)) split
    ≡ cond b (front_pieces settings ++ fitting_pieces settings split) split) [
      | true ↦ ap (λ ws. front_pieces settings ++ ws) (sym plain)
      | false ↦ unbroken _ split bounded (omega (arith, short))
    ]

pub limited-pieces : (settings : Settings) (splitter : Splitter) (paragraph : List ℕ)
    (words : List WordText) → IsUtf8 paragraph → AreTexts paragraph words
    → length paragraph < text_limit
    → front_of settings ++ broken_words (break_limit settings) (split_words splitter words)
    ≡ pieces_of_words settings splitter words
limited-pieces settings splitter paragraph words utf8 texts short =
    let measured = split_words-measured settings splitter paragraph words utf8 texts in
    let plain = split_words-no_penalty settings splitter paragraph words utf8 texts in
    let tile = ap length (split_words-tile settings splitter paragraph words utf8 texts) in
    search (rules, arith, limited-words, IsNarrowWord-measured)
