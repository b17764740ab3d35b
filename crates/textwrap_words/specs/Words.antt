-- Words by their texts: what a text is as a word, and the words of a line.
use Rattle.std.specs.Prelude.{◌≡◌, ℕ, List, [], ◌++◌, length, map}
use Rattle.std.specs.List.{flat_map}
use Rattle.textwrap_text.specs.Blanks.{without_final_blanks, final_blanks}
use Rattle.textwrap_base.specs.Sizes.{Sizes}
use Rattle.textwrap_text.specs.Units.{text_width}
pub use Rattle.textwrap_text.specs.Chunks.{AreChunks, AreCutApart, IsUncut, chunks, is_cut}
use Rattle.textwrap_words.specs.declared.words.Word.{Word}

-- a word by its bytes, and its columns
pub record WordText : Type 0 where
  pub word : List ℕ
  pub whitespace : List ℕ
  pub penalty : List ℕ
  pub width : ℕ

abbrev pub word_view : Word → WordText
word_view w = record {
  word = w.word.now;
  whitespace = w.whitespace.now;
  penalty = w.penalty.now;
  width = w.width;
}

-- the widths of a word as a fragment: its columns, and the bytes of its whitespace and penalty
abbrev pub sizes_of : WordText → Sizes
sizes_of w =
    record { width = w.width; whitespace = length w.whitespace; penalty = length w.penalty }

-- the text that a word covers: its own, and its whitespace
abbrev pub tile_of : WordText → List ℕ
tile_of w = w.word ++ w.whitespace

-- the text that words cover, one after another
abbrev pub tiled : List WordText → List ℕ
tiled words = flat_map tile_of words

-- the words, each with its whitespace, are the text
abbrev pub Tiles : List WordText → List ℕ → Type 0
Tiles words text = tiled words ≡ text

-- a piece of a word, with what follows it and the columns of its own text: words are split and
-- broken into pieces, and the pieces of a paragraph are divided into lines
abbrev pub piece : List ℕ → List ℕ → List ℕ → WordText
piece text whitespace penalty =
    record { word = text; whitespace = whitespace; penalty = penalty; width = text_width text }

-- a text as a word, which is in one piece: its final blanks are the whitespace
abbrev pub word_of : List ℕ → WordText
word_of text = piece (without_final_blanks text) (final_blanks text) []

-- ---- the words of a line

-- the words of a line are its chunks, each taken as a word
abbrev pub AreWordsOf : List ℕ → List WordText → Type 0
AreWordsOf line words =
    (chunks : List (List ℕ)) × AreChunks line chunks × (words ≡ map word_of chunks)

-- ---- the same, computed

abbrev pub words_of : List ℕ → List WordText
words_of line = map word_of (chunks line)
