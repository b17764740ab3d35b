-- Pieces by where they stand in a text, and how the first of them is found.
use Rattle.std.specs.Prelude.{◌≡◌, ◌≢◌, ℕ, ◌+◌, ◌<◌, ◌≤◌, Bool, true, false, ◌&&◌, ◌||◌}
use Rattle.std.specs.Prelude.{List, [], ◌∷◌, length, slice_index, slice_range, IsCharBoundary}
use Rattle.textwrap_text.specs.Blanks.{blank, is_blank, BlanksBetween, trimmed_len}
use Rattle.textwrap_words.specs.Breaking.{broken_texts}
use Rattle.textwrap_words.specs.PieceCuts.{is_point, pieces_from_place, pieces_within}
use Rattle.textwrap_text.specs.Units.{IsPrintableByte, text_width}
use Rattle.textwrap_words.specs.WordSplitters.{hyphen, Splitter, Whole, AtHyphens}
use Rattle.textwrap_words.specs.Words.{WordText}
use Rattle.textwrap_words.specs.declared.pieces.BuiltInSplitter.{BuiltInSplitter}
use Rattle.textwrap_words.specs.declared.pieces.BuiltInSplitter.TheVariants.{NoHyphenation, HyphenSplitter}
use Rattle.textwrap_words.specs.declared.pieces.Piece.{Piece}

-- the splitter of the definitions
abbrev pub as_splitter : BuiltInSplitter → Splitter
as_splitter NoHyphenation = Whole
as_splitter HyphenSplitter = AtHyphens

-- where words stand, one after another, of which the first begins at the place
abbrev pub stand_from : ℕ → List WordText → List Piece
stand_from at [] = []
stand_from at (w ∷ ws) =
    record {
      word_end = at + length w.word;
      end = at + length w.word + length w.whitespace;
      width = w.width;
    }
    ∷ stand_from (at + length w.word + length w.whitespace) ws

-- a word without text, as a piece before the others
abbrev pub empty_front : List WordText
empty_front = record { word = []; whitespace = []; penalty = []; width = 0 } ∷ []

-- printable ASCII, and neither a blank nor a hyphen
pub record IsLetter (byte : ℕ) : Type 0 where
  pub printable : IsPrintableByte byte
  pub not_blank : byte ≢ blank
  pub not_hyphen : byte ≢ hyphen

-- a piece stops there: before a blank, if pieces stop at these, or at a point of the splitter
abbrev pub is_stop : Bool → Splitter → List ℕ → ℕ → Bool
is_stop at_blanks splitter text place =
    (at_blanks && is_blank (slice_index text place)) || is_point splitter text place

-- the text from the one place up to its first stop, or up to the end, is broken at the limit: its
-- first part goes up to the other place, and has so many columns
pub record IsFirstStop (stops : ℕ → Bool) (limit : ℕ) (text : List ℕ) (at end place width : ℕ) :
    Type 0 where
  pub stop : ℕ
  pub within : stop ≤ end
  pub cut : IsCharBoundary text stop
  pub uncut : (k : ℕ) → at < k → k < stop → stops k ≡ false
  pub ends : stop < end → stops stop ≡ true
  pub from : at ≤ place
  pub up_to : place ≤ stop
  pub some : at < end → at < place
  pub boundary : IsCharBoundary text place
  pub first : at < end → broken_texts limit (slice_range text at stop)
      ≡ slice_range text at place ∷ broken_texts limit (slice_range text place stop)
  pub wide : width ≡ text_width (slice_range text at place)

-- the first piece from the one place on has the word up to the other, of so many columns, and all
-- blanks after that
pub record IsFirstWord (splitter : Splitter) (limit : ℕ) (text : List ℕ)
    (at word_end width : ℕ) : Type 0 where
  pub from : at ≤ word_end
  pub boundary : IsCharBoundary text word_end
  pub first : (end : ℕ) → word_end ≤ end → end ≤ length text → BlanksBetween text word_end end
      → (end < length text → is_blank (slice_index text end) ≡ false)
      → pieces_from_place splitter limit text at
      ≡ record {
        word = slice_range text at word_end;
        whitespace = slice_range text word_end end;
        penalty = [];
        width = width;
      }
      ∷ pieces_from_place splitter limit text end

-- the first piece of a word with its blanks, from the place on
pub record IsFirstWithin (splitter : Splitter) (limit : ℕ) (text : List ℕ) (at : ℕ)
    (piece : Piece) : Type 0 where
  pub from : at ≤ piece.word_end
  pub up_to : piece.word_end ≤ piece.end
  pub boundary : IsCharBoundary text piece.end
  pub before_blanks : piece.end < length text → piece.end ≤ trimmed_len text
  pub first : pieces_within splitter limit text at
      ≡ record {
        word = slice_range text at piece.word_end;
        whitespace = slice_range text piece.word_end piece.end;
        penalty = [];
        width = piece.width;
      }
      ∷ pieces_within splitter limit text piece.end
