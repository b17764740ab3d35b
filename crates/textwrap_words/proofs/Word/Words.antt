-- The words of a line: they tile it, are measured, and there is one list of them.
use Rattle.textwrap_text.proofs.{Common.ap, Common.ℕ, Units.Reading.text_width-le}
use Rattle.textwrap_text.proofs.Common.{chars-nil, flat_map-append, length-append, take-append-drop}
use Rattle.textwrap_text.proofs.Common.{All-append, All-weaker, append-nil, map-append, trimmed_len}
use Rattle.textwrap_text.proofs.Common.{All-head, All-tail, flat_map, IsUtf8, take_more, text_width}
use Rattle.textwrap_text.proofs.Common.{All-map, All-nil, chunks, columns, get_or, is_blank, length}
use Rattle.textwrap_text.proofs.Common.{arith, false, List, refl, rules, sum_by, take, true, ◌++◌}
use Rattle.textwrap_text.proofs.Common.{[], All, map, sym, ◌+◌, ◌<◌, ◌==◌, ◌↔◌, ◌∙◌, ◌∷◌, ◌≡◌, ◌≤◌}
use Rattle.textwrap_text.proofs.Units.Chunks.{AreChunks-chunks, chunks-flat, join-chunks}
use Rattle.textwrap_base.proofs.Common.{closed_width, total_width}
use Rattle.textwrap_base.proofs.Cost.LineCosts.{total_width-cons}
use Rattle.textwrap_words.proofs.Common.{AreWordsOf, sizes_of, tiled, word_view, words_of, WordText}
use Rattle.textwrap_words.proofs.Common.{flat, tile_of, visible, Word, word_of}
use Rattle.textwrap_words.proofs.Word.Texts.{final_blanks-blank, without_final_blanks-utf8}
use Rattle.textwrap_words.proofs.Word.Texts.{AreBlanks}

-- ---- tiling

pub tile_of-word_of : (text : List ℕ) → tile_of (word_of text) ≡ text
tile_of-word_of text = take-append-drop (trimmed_len text) text

pub tiled-map : (parts : List (List ℕ)) → tiled (map word_of parts) ≡ flat parts
tiled-map [] = refl
tiled-map (part ∷ parts) = grind (arith, tile_of-word_of, tiled-map parts)

pub tiled-words_of : (line : List ℕ) → tiled (words_of line) ≡ line
tiled-words_of line = tiled-map (chunks line) ∙ join-chunks line

pub tiled-append : (ws vs : List WordText) → tiled (ws ++ vs) ≡ tiled ws ++ tiled vs
tiled-append ws vs = flat_map-append tile_of ws vs

pub tiled-push : (ws : List WordText) (w : WordText) → tiled (ws ++ w ∷ []) ≡ tiled ws ++ tile_of w
tiled-push ws w = tiled-append ws (w ∷ []) ∙ ap (λ l. tiled ws ++ l) (append-nil (tile_of w))

-- the first i words and the one at i, of which a and b are the text and the whitespace
pub tiled-take : (words : List Word) (i : ℕ) (d : Word) (a b : List ℕ) → i < length words
    → a ≡ (get_or words i d).word.now → b ≡ (get_or words i d).whitespace.now
    → tiled (map word_view (take (i + 1) words)) ≡ tiled (map word_view (take i words)) ++ (a ++ b)
tiled-take words i d a b within word whitespace = rw (take_more words i d within, word, whitespace)
    (ap tiled (map-append word_view (take i words) (get_or words i d ∷ []))
    ∙ tiled-push (map word_view (take i words)) (word_view (get_or words i d)))

pub tiled-take-le : (words : List Word) (i : ℕ)
    → length (tiled (map word_view (take i words))) ≤ length (tiled (map word_view words))
tiled-take-le words i =
    let parts = simp (map-append, flat_map-append, length-append) at
    (ap (λ l. length (tiled (map word_view l))) (take-append-drop i words)) in search (rules, arith)

-- ---- there is one list of words

pub words_unique : (line : List ℕ) (words : List WordText) → AreWordsOf line words
    ↔ (words ≡ words_of line)
words_unique line words = (
  λ (parts, are, is). is ∙ ap (map word_of) (sym (chunks-flat parts are.nonempty are.uncut are.cut)
      ∙ ap chunks are.tiles),
  λ is. (chunks line, AreChunks-chunks line, is),
)

-- ---- the words of a line are text, are measured, and end in blanks

-- blanks stand after the word, and none where it has a penalty
pub record EndsInBlanks (w : WordText) : Type 0 where
  pub blanks : AreBlanks w.whitespace
  pub none : (length w.penalty == 0) ≡ false → w.whitespace ≡ []

-- a word of UTF-8, with the columns of its own text, and with blanks after it
pub record IsMeasured (w : WordText) : Type 0 where
  pub utf8 : IsUtf8 w.word
  pub width : w.width ≡ text_width w.word
  pub ending : EndsInBlanks w

pub word_of-measured : (bytes : List ℕ) → IsUtf8 bytes → IsMeasured (word_of bytes)
word_of-measured bytes utf8 = grind (arith, without_final_blanks-utf8, final_blanks-blank)

pub words-measured : (parts : List (List ℕ)) → All IsUtf8 parts → All IsMeasured (map word_of parts)
words-measured parts utf8 = search (rules, arith, All-map, All-weaker, word_of-measured, utf8)

pub text_width-nil : text_width [] ≡ 0
text_width-nil = ap (λ cs. sum_by columns (visible cs)) chars-nil

-- words become lists of words: Q holds of all of these, if it does of those of each word with P
pub All-each : (P Q : WordText → Type 0) (f : WordText → List WordText)
    → ((w : WordText) → P w → All Q (f w)) → (words : List WordText) → All P words
    → All Q (flat_map f words)
All-each P Q f each [] all = All-nil Q
All-each P Q f each (w ∷ words) all =
    All-append Q (f w) (flat_map f words) (each w (All-head P w words all))
    (All-each P Q f each words (All-tail P w words all))

abbrev pub HasNoPenalty : WordText → Type 0
HasNoPenalty w = w.penalty ≡ []

pub no_blanks : AreBlanks []
no_blanks = All-nil (λ c. is_blank c ≡ true)

-- ---- all widths of words together keep to the bytes that they tile, where they have no
-- penalties

pub record IsNarrowWord (w : WordText) : Type 0 where
  pub width : w.width ≤ length w.word
  pub penalty : HasNoPenalty w

pub IsNarrowWord-measured : (w : WordText) → IsMeasured w → HasNoPenalty w → IsNarrowWord w
IsNarrowWord-measured w measured none = grind (arith, text_width-le)

pub total_width-narrow : (words : List WordText) → All IsNarrowWord words
    → total_width sizes_of words ≤ length (tiled words)
total_width-narrow [] all = omega arith
total_width-narrow (w ∷ words) all =
    let here = All-head IsNarrowWord w words all in
    let rest = total_width-narrow words (All-tail IsNarrowWord w words all) in
    let none : length w.penalty ≡ 0 = ap length here.penalty in
    omega (arith, here.width, total_width-cons sizes_of w words, length-append {A = ℕ})

pub closed_width-narrow : (words : List WordText) → All IsNarrowWord words
    → closed_width sizes_of words ≤ length (tiled words)
closed_width-narrow [] all = omega arith
closed_width-narrow (w ∷ []) all = grind (arith, All-head, length-append)
closed_width-narrow (w ∷ v ∷ words) all =
    let again = closed_width-narrow (v ∷ words) (All-tail IsNarrowWord w (v ∷ words) all) in
    grind (arith, All-head, length-append)
