-- The statements of the laws, each under a name that a caller can cite.
use Rattle.std.specs.Prelude.{◌≡◌, ◌≢◌, ◌↔◌, ℕ, ◌<◌, List, [], All, IsUtf8}
use Rattle.std.specs.List.{flat_map}
use Rattle.textwrap_words.specs.Breaking.{AreBrokenPieces, broken_pieces, broken_words}
use Rattle.textwrap_words.specs.Cuts.{AreCuts}
use Rattle.textwrap_words.specs.WordOffsets.{AreWordsAt, words_at}
use Rattle.textwrap_words.specs.WordSplitters.{Splitter, points_of, split_pieces, split_words}
use Rattle.textwrap_words.specs.Words.{WordText, tile_of, tiled, AreWordsOf, words_of}
pub use Rattle.textwrap_text.specs.Laws.{ReaderShowsVisible, TextsAreNarrow, UnitsAreUnique}
pub use Rattle.textwrap_base.specs.Laws.{GreedyDivisionIsUnique, ChosenDivisionIsUnique}
pub use Rattle.textwrap_base.specs.Laws.{TableDivisionIsUnique, TableOverflowIsOverflow}
pub use Rattle.textwrap_base.specs.Laws.{TableHasLeastCosts}

-- a line has one list of words, the computed one
abbrev pub WordsAreUnique : Type 0
WordsAreUnique = (line : List ℕ) (words : List WordText)
    → AreWordsOf line words ↔ (words ≡ words_of line)

-- a line has one list of words at offsets of its visible text, the computed one
abbrev pub WordsAtAreUnique : Type 0
WordsAtAreUnique = (offsets line : List ℕ) (words : List WordText)
    → AreWordsAt offsets line words ↔ (words ≡ words_at offsets line)

-- the points of a splitter are cuts of the word
abbrev pub PointsAreCuts : Type 0
PointsAreCuts =
    (splitter : Splitter) (text : List ℕ) → IsUtf8 text → AreCuts text (points_of splitter text)

-- the pieces at any cuts tile the word, with its whitespace
abbrev pub SplitPiecesTile : Type 0
SplitPiecesTile =
    (points : List ℕ) (w : WordText) → AreCuts w.word points
    → tiled (split_pieces points w) ≡ tile_of w

-- so the pieces of words tile what the words do
abbrev pub SplitWordsTile : Type 0
SplitWordsTile =
    (splitter : Splitter) (words : List WordText) → All (λ w. IsUtf8 w.word) words
    → tiled (split_words splitter words) ≡ tiled words

-- a word can be broken into one list of pieces, the computed one
abbrev pub BrokenPiecesAreUnique : Type 0
BrokenPiecesAreUnique = (limit : ℕ) (w : WordText) (pieces : List WordText)
    → AreBrokenPieces limit w pieces ↔ (pieces ≡ broken_pieces limit w)

-- the texts of a word's pieces are its text
abbrev pub BrokenTextsTile : Type 0
BrokenTextsTile = (limit : ℕ) (w : WordText) → IsUtf8 w.word
    → flat_map (λ piece. piece.word) (broken_pieces limit w) ≡ w.word

-- the pieces of a word with a text cover what the word does
abbrev pub BrokenPiecesTile : Type 0
BrokenPiecesTile = (limit : ℕ) (w : WordText) → IsUtf8 w.word → w.word ≢ []
    → tiled (broken_pieces limit w) ≡ tile_of w

-- words, broken where they are too wide, cover what they did, if each of those has a text
abbrev pub BrokenWordsTile : Type 0
BrokenWordsTile = (limit : ℕ) (words : List WordText) → All (λ w. IsUtf8 w.word) words
    → All (λ w. limit < w.width → w.word ≢ []) words
    → tiled (broken_words limit words) ≡ tiled words
